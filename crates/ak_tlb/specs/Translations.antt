-- A list of translations, the one that came first in front, and what caching one more leaves of it. (SDM volume 3A, "Translation
-- Lookaside Buffers (TLBs)"; how many there are and which goes is this project's own.)
use Rattle.std.specs.Prelude.{ℕ, Bool, List, [], ◌∷◌, ◌++◌, drop, length, Option, Some, None, find, position, ◌==◌, if◌then◌else◌}
use Rattle.std.specs.List.{list_any}
use Rattle.ak_core.specs.Mem.{Access, access_to}
use Rattle.ak_core.specs.declared.page.Frame.{Frame}
use Rattle.ak_core.specs.declared.page.Kind.{Kind}
use Rattle.ak_model.specs.Misses.KeptTranslations.{same_access}
use Rattle.ak_tlb.specs.declared.translation.Translation.{Translation}

-- a translation of an access to this page
abbrev pub translation_of : ℕ → Kind → ℕ → Translation
translation_of p k f = record { access = access_to p k; frame = record { 0 = f } }

-- it is of this access
abbrev pub is_for : Access → Translation → Bool
is_for t translation = same_access t translation.access

-- the first one of an access
abbrev pub found : List Translation → Access → Option Translation
found translations t = find (is_for t) translations

-- the place of the first one of an access
abbrev pub place_in : List Translation → Access → Option ℕ
place_in translations t = position (is_for t) translations

-- its frame
abbrev pub frame_in : Option Translation → Option Frame
frame_in None = None
frame_in (Some translation) = Some translation.frame

-- ---- One more

-- it stands in place of the first one of the same access
abbrev pub put_in : Translation → List Translation → List Translation
put_in new [] = []
put_in new (translation ∷ rest) = if is_for new.access translation then new ∷ rest else translation ∷ put_in new rest

-- of 64 the one that came first goes
abbrev pub room_made : List Translation → List Translation
room_made translations = if length translations == 64 then drop 1 translations else translations

-- it stands at the end
abbrev pub added : Translation → List Translation → List Translation
added new translations = room_made translations ++ new ∷ []

-- the list with one more: in place of the one of the same access, or at the end
unfoldable pub filled : Translation → List Translation → List Translation
filled new translations = if list_any (is_for new.access) translations then put_in new translations else added new translations
