-- What no access changes of a memory, beside the bytes of pages.
use Rattle.std.specs.Prelude.{◌≡◌, ℕ, Bool, false, List, length, refl}
use Rattle.std.proofs.Common.{◌∙◌, ap}
use Rattle.ak_epcm.specs.Entries.{entry_at, is_of_page}
use Rattle.ak_pte.specs.declared.table.Pte.{Pte}
use Rattle.ak_tlb.specs.declared.translation.Translation.{Translation}
use Rattle.ak_encls.specs.Enclave.{Enclave, frame_at}

-- of an enclave only bytes of frames that hold its pages change, and no frame's length
pub record KeepsFrames (old new : Enclave) : Type 0 where
  pub rest : new ≡ record old { frames = new.frames }
  pub count : length new.frames ≡ length old.frames
  pub lengths : (g : ℕ) → length (frame_at new.frames g) ≡ length (frame_at old.frames g)
  pub others : (g : ℕ) → is_of_page (entry_at old.entries g) ≡ false → frame_at new.frames g ≡ frame_at old.frames g

-- an enclave keeps itself
pub keeps_frames-self : (e : Enclave) → KeepsFrames e e
keeps_frames-self e = record { rest = refl; count = refl; lengths = λ g. refl; others = λ g away. refl }

-- what is kept twice is kept
pub keeps_frames-on : (a b c : Enclave) → KeepsFrames a b → KeepsFrames b c → KeepsFrames a c
keeps_frames-on a b c first then = record {
  rest = then.rest ∙ ap (λ (e : Enclave). record e { frames = c.frames }) first.rest;
  count = then.count ∙ first.count;
  lengths = λ g. then.lengths g ∙ first.lengths g;
  others = λ g away. then.others g (ap (λ (e : Enclave). is_of_page (entry_at e.entries g)) first.rest ∙ away) ∙ first.others g away;
}

-- so it is of a memory, and the page table, what is cached, and whether accesses use it stay too
pub record KeepsAround (old new : Enclave) (table table' : List Pte) (cached cached' : List Translation) (uses uses' : Bool) : Type 0 where
  pub encls : KeepsFrames old new
  pub mapped : table' ≡ table
  pub tlb : cached' ≡ cached
  pub uses_cache : uses' ≡ uses

pub keeps_around-self : (e : Enclave) (table : List Pte) (cached : List Translation) (uses : Bool) → KeepsAround e e table table cached cached uses uses
keeps_around-self e table cached uses = record { encls = keeps_frames-self e; mapped = refl; tlb = refl; uses_cache = refl }

pub keeps_around-on : (a b c : Enclave) (t u v : List Pte) (x y z : List Translation) (k l m : Bool) →
    KeepsAround a b t u x y k l → KeepsAround b c u v y z l m → KeepsAround a c t v x z k m
keeps_around-on a b c t u v x y z k l m first then = record {
  encls = keeps_frames-on a b c first.encls then.encls;
  mapped = then.mapped ∙ first.mapped;
  tlb = then.tlb ∙ first.tlb;
  uses_cache = then.uses_cache ∙ first.uses_cache;
}
