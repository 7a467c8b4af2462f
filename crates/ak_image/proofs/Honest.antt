-- No stage refuses for want of memory.
use Rattle.std.proofs.Common.{◌≢◌, ℕ, Bool, true, false, List, Option, Some, None, is_none, Result, Ok, Err, IfErr, not, ◌&&◌, nat_le}
use Rattle.std.specs.List.{concat, filter_map, position}
use Rattle.std.specs.Option.{ok_or}
use Rattle.toml.specs.Data.{Members}
use Rattle.ak_core.specs.declared.page.Page.{Page}
use Rattle.ak_measure.specs.Document.{document_of}
use Rattle.ak_measure.specs.Stages.{◌>>=◌}
use Rattle.ak_image.specs.Image.{Image}
use Rattle.ak_image.specs.Keys.{has_unknown_key, has_all_keys}
use Rattle.ak_image.specs.Numbers.{count_of, version_of, base_of, entry_of, budget_of}
use Rattle.ak_image.specs.Pages.{perm_of, content_of, perms_of, bytes_of}
use Rattle.ak_image.specs.Reading.{image_of, image_of_document, image_of_spelled, image_of_pages}
use Rattle.ak_image.specs.Spelled.{PageText, Spelled, spelled}
use Rattle.ak_image.specs.Stages.{◌>>◌, refuse, refuse_at, each}
use Rattle.ak_image.specs.declared.fault.ImageFault.{ImageFault}
use Rattle.ak_image.specs.declared.fault.ImageFault.TheVariants.{NotToml, UnknownKey, MissingKey, WrongType, Version, BaseAlign, PageCount, PagePerm, PageBytes, Entry, Budget, OutOfMemory}

-- if it is refused, then not for want of memory
abbrev pub IsHonest : {A : Type 0} → Result A ImageFault → Type 0
IsHonest r = IfErr r (λ fault. fault ≢ OutOfMemory)

next : {A B : Type 0} (r : Result A ImageFault) (f : A → Result B ImageFault) → IsHonest r → ((x : A) → IsHonest (f x)) → IsHonest (r >>= f)
next (Ok x) f h k = k x
next (Err e) f h k = h

then_next : {A B : Type 0} (r : Result A ImageFault) (s : Result B ImageFault) → IsHonest r → IsHonest s → IsHonest (r >> s)
then_next (Ok x) s h k = k
then_next (Err e) s h k = h

of_option : {A : Type 0} (o : Option A) (fault : ImageFault) → fault ≢ OutOfMemory → IsHonest (ok_or o fault)
of_option None fault h = h
of_option (Some x) fault h = tt

of_test : (fault : ImageFault) (b : Bool) → fault ≢ OutOfMemory → IsHonest (refuse fault b)
of_test fault true h = h
of_test fault false h = tt

at_place : (fault : Page → ImageFault) (o : Option ℕ) → ((p : Page) → fault p ≢ OutOfMemory) → IsHonest (refuse_at fault o)
at_place fault None h = tt
at_place fault (Some p) h = h (record { 0 = p })

of_each : {A B : Type 0} (fault : Page → ImageFault) (read : A → Option B) (xs : List A) → ((p : Page) → fault p ≢ OutOfMemory) → IsHonest (each fault read xs)
of_each fault read xs h = then_next (refuse_at fault (position (λ x. is_none (read x)) xs)) (Ok (filter_map read xs)) (at_place fault (position (λ x. is_none (read x)) xs) h) tt

of_perms : (pages : List PageText) → IsHonest (perms_of pages)
unfolding perms_of
of_perms pages = of_each PagePerm perm_of pages (λ p e. cc)

of_bytes : (pages : List PageText) → IsHonest (bytes_of pages)
unfolding bytes_of
of_bytes pages = next (each PageBytes content_of pages) (λ contents. Ok (concat contents)) (of_each PageBytes content_of pages (λ p e. cc)) (λ contents. tt)

of_pages : (text : Spelled) (base : ℕ) → IsHonest (image_of_pages text base)
of_pages text base =
    next (perms_of text.pages) _ (of_perms text.pages) (λ perms.
    next (bytes_of text.pages) _ (of_bytes text.pages) (λ bytes.
    next (ok_or (entry_of text) Entry) _ (of_option (entry_of text) Entry (λ e. cc)) (λ entry.
    next (ok_or (budget_of text) Budget) _ (of_option (budget_of text) Budget (λ e. cc)) (λ budget. tt))))

of_spelled : (text : Spelled) → IsHonest (image_of_spelled text)
of_spelled text =
    then_next (ok_or (version_of text) Version) _ (of_option (version_of text) Version (λ e. cc)) (
    next (ok_or (base_of text) BaseAlign) _ (of_option (base_of text) BaseAlign (λ e. cc)) (λ base.
    then_next (refuse PageCount (not (nat_le 1 (count_of text) && nat_le (count_of text) 512))) (image_of_pages text base) (of_test PageCount _ (λ e. cc)) (of_pages text base)))

of_document : (document : Members) → IsHonest (image_of_document document)
of_document document =
    then_next (refuse UnknownKey (has_unknown_key document)) _ (of_test UnknownKey (has_unknown_key document) (λ e. cc)) (
    then_next (refuse MissingKey (not (has_all_keys document))) _ (of_test MissingKey (not (has_all_keys document)) (λ e. cc)) (
    next (ok_or (spelled document) WrongType) image_of_spelled (of_option (spelled document) WrongType (λ e. cc)) of_spelled))

pub honest : (bytes : List ℕ) → IsHonest (image_of bytes)
honest bytes = next (ok_or (document_of bytes) NotToml) image_of_document (of_option (document_of bytes) NotToml (λ e. cc)) of_document

pub no_memory : (r : Result Image ImageFault) → IsHonest r → r ≢ Err OutOfMemory
no_memory (Ok x) h e = (cc)
no_memory (Err fault) h e = h (cc)
