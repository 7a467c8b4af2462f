-- The pages of the code's texts, and the names of their clusters.
use Rattle.std.proofs.Common.{◌≡◌, suc, List, [], ◌∷◌, length, map, refl, ap}
use Rattle.ak_image.specs.Views.{page_text_of}
use Rattle.ak_image.specs.declared.spelled.PageText.{PageText}

pub names_view : (pages : List PageText) → map (λ page. page.cluster) (map page_text_of pages) ≡ map (λ p. p.cluster.now) pages
names_view [] = refl
names_view (p ∷ ps) = ap (λ l. p.cluster.now ∷ l) (names_view ps)

pub length_view : (pages : List PageText) → length (map page_text_of pages) ≡ length pages
length_view [] = refl
length_view (p ∷ ps) = ap suc (length_view ps)
