-- What a list of translations holds of all that was cached since the last flush. (SDM volume 3A, "Translation Lookaside Buffers
-- (TLBs)"; how much is surely kept is this project's own.)
use Rattle.std.specs.Prelude.{◌≡◌, ℕ, true, false, List, [], ◌∷◌, length, map, Option, Some, None, if◌then◌else◌}
use Rattle.std.specs.List.{list_any, list_all, range_with_len}
use Rattle.ak_core.specs.Mem.{Access, access_to}
use Rattle.ak_core.specs.declared.page.Frame.{Frame}
use Rattle.ak_core.specs.declared.page.Kind.{Kind}
use Rattle.ak_model.specs.Misses.KeptTranslations.{same_access, distinct, are_few_of}
use Rattle.ak_tlb.specs.declared.translation.Translation.{Translation}
use Rattle.ak_tlb.specs.Translations.{is_for, found, frame_in}

-- a translation that was cached: the access that a walk found, and its frame
pub record Fill : Type 0 where
  pub access : Access
  pub frame : ℕ

-- of an access to this page
abbrev pub fill_of : ℕ → Kind → ℕ → Fill
fill_of p k f = record { access = access_to p k; frame = f }

-- the accesses
abbrev pub accesses_of : List Fill → List Access
accesses_of fills = map (λ fill. fill.access) fills

-- the frame that was last cached for an access; what was cached stands newest first
abbrev pub frame_for : List Fill → Access → Option Frame
frame_for [] t = None
frame_for (fill ∷ fills) t = if same_access t fill.access then Some (record { 0 = fill.frame }) else frame_for fills t

-- for each remainder modulo 16 at most four different ones have such a page
abbrev pub AreFew : List Access → Type 0
AreFew accesses = list_all (are_few_of accesses) (range_with_len 0 16) ≡ true

-- no two translations are of one access
abbrev pub Once : List Translation → Type 0
Once [] = Unit {0}
Once (translation ∷ rest) = (list_any (is_for translation.access) rest ≡ false) × Once rest

-- all that was cached is there, each access once
pub record KeepsAll (translations : List Translation) (fills : List Fill) : Type 0 where
  pub all : (t : Access) → frame_in (found translations t) ≡ frame_for fills t
  pub count : length translations ≡ length (distinct (accesses_of fills))

-- what is there was last cached for its access; and all of it is there where few were cached
pub record HoldsFills (translations : List Translation) (fills : List Fill) : Type 0 where
  pub once : Once translations
  pub last : (t : Access) (f : Frame) → frame_in (found translations t) ≡ Some f → frame_for fills t ≡ Some f
  pub kept : AreFew (accesses_of fills) → KeepsAll translations fills
