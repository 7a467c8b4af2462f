-- A machine after the build.
use Rattle.std.proofs.Common.{◌≡◌, ℕ, ◌+◌, ◌-◌, ◌*◌, ◌<◌, Bool, true, false, ◌==◌, if◌then◌else◌, List, [], length, take, drop, replicate, length-take, length-drop, refl, ap, sym, ◌∙◌, subst, arith}
use Rattle.std.proofs.lemmas.Bool.{false≢true}
use Rattle.std.proofs.lemmas.Bool.Decides.{nat_tests}
use Rattle.std.proofs.lemmas.Option.{slice_get_within}
use Rattle.std.specs.Prelude.{nat_lt, Some, None, slice_get}
use Rattle.std.specs.Option.{option_map}
use Rattle.ak_core.specs.Layout.{Layout}
use Rattle.ak_core.specs.declared.page.Entry.{Entry}
use Rattle.ak_core.specs.declared.page.Perm.{Perm}
use Rattle.ak_core.specs.declared.page.PageType.TheVariants.{Tcs, Reg}
use Rattle.ak_epcm.specs.Entries.{free_entry, entry_at}
use Rattle.ak_model.specs.Paging.Build.{held_at_build}
use Rattle.ak_model.specs.Paging.Handles.{live}
use Rattle.ak_model.proofs.Paging.OneCopy.{one_copy}
use Rattle.ak_pte.specs.Table.{pte_at}
use Rattle.ak_pte.specs.declared.table.Pte.{Pte}
use Rattle.ak_sealed.specs.SealedPages.{sealed_page_at, sealed_page_of}
use Rattle.ak_track.specs.Steps.{Cycled}
use Rattle.ak_track.specs.Tracking.{HoldsSteps}
use Rattle.ak_image.specs.Built.{pages_of, page_bytes}
use Rattle.ak_image.specs.Image.{Image, IsWhole, layout_of}
use Rattle.ak_image.proofs.BuiltPages.{page_bytes-program}
use Rattle.ak_relation.specs.Premises.Built.{IsBuilt}
use Rattle.ak_relation.specs.State.MachineState.{Processor, State}
use Rattle.ak_relation.specs.State.Tables.{SealedPageAgrees, TablesStand}
use Rattle.ak_walk.specs.Agrees.{EntryAgrees}
use Rattle.ak_walk.specs.Mappings.{mapping_of}
use Rattle.ak_encls.specs.Building.{secs_entry, va_entry, added_entry}
use Rattle.ak_encls.specs.Enclave.{Enclave, frame_at}
use Rattle.ak_encls.specs.Paging.{IsPaging}
use Rattle.ak_encls.proofs.Alone.{nobody}
use Rattle.ak_build.specs.Adding.{entry_so_far, program_sealed, HasBytes, HasAdded}
use Rattle.ak_build.specs.Built.{AreOutside, BuiltAs, HoldsPages}
use Rattle.ak_build.specs.declared.building.Built.{Built}
use Rattle.ak_build.specs.Mapping.{MapsEach}
use Rattle.ak_build.specs.Runtime.{runtime_perm}
use Rattle.ak_build.proofs.Entries.{entries_agree}
use Rattle.ak_build.proofs.SealedPages.{sealed_agrees, slots_stand}
use Rattle.ak_build.proofs.Copies.{copies_stand}

-- no entry is blocked
none_blocked : (n f : ℕ) → (entry_so_far n 6 f).blocked ≡ false
none_blocked n f = by (f == 0) (f == 1) (nat_lt f 8) (f - 2 == 0)
  where
    by : (a b c d : Bool) →
        (if a then secs_entry else (if b then va_entry
        else (if c then added_entry (record { 0 = n + (f - 2) }) (if d then Tcs else Reg) (runtime_perm (f - 2)) else free_entry))).blocked ≡ false
    by true b c d = refl
    by false true c d = refl
    by false false true true = refl
    by false false true false = refl
    by false false false d = refl

-- the machine
abbrev state_of : Image → Enclave → List Pte → (ℕ → Processor) → State
state_of image encls table processors = record {
  entries = encls.entries;
  stamps = λ f. 0;
  track = replicate (pages_of image) Cycled;
  frames = frame_at encls.frames;
  sealed_pages = sealed_page_at encls.handles;
  next = length encls.handles.sealed_pages;
  table = λ p. mapping_of (pte_at table p);
  processors = processors;
  count = 0;
  queue = [];
}

-- a page of the program is whole
page_whole : (image : Image) → IsWhole image → (p : ℕ) → p < pages_of image → length (page_bytes image p) ≡ 4096
page_whole image whole p below = ap length (page_bytes-program image p below) ∙ size
  where
    size : length (take 4096 (drop (4096 * p) image.bytes)) ≡ 4096
    size = let all = whole.bytes in omega (arith, length-take 4096 (drop (4096 * p) image.bytes), length-drop (4096 * p) image.bytes)

module _ (image : Image) (frames lps : ℕ) (encls : Enclave) (table : List Pte) (processors : ℕ → Processor)
    (h : HasAdded image frames lps encls (pages_of image) 6) (m : MapsEach (layout_of image frames lps) table) (out : AreOutside processors) where
  abbrev layout : Layout
  layout = layout_of image frames lps

  abbrev state : State
  state = state_of image encls table processors

  steps : HoldsSteps encls.track lps (replicate (pages_of image) Cycled)
  steps =
      let by_cycles : HoldsSteps encls.track encls.track.lps (replicate (pages_of image) Cycled) = subst (λ k. HoldsSteps encls.track encls.track.lps (replicate k Cycled)) h.cycles h.unentered in
      subst (λ l. HoldsSteps encls.track l (replicate (pages_of image) Cycled)) h.lps_are by_cycles

  unblocked : (f : ℕ) → (entry_at encls.entries f).blocked ≡ false
  unblocked f = ap (λ (e : Entry). e.blocked) (h.entries f) ∙ none_blocked (pages_of image) f

  -- the enclave is its paging part
  is_paging : IsPaging layout encls state
  is_paging = record {
    count = h.count;
    entries = refl;
    frames = λ f. refl;
    sealed_pages = λ k. refl;
    next = refl;
    track = steps;
    stamps = λ f blocked. absurd (false≢true (sym (unblocked f) ∙ blocked));
    within = λ lp below. out.outside lp ∙ sym (nobody (pages_of image) lp);
  }

  module _ (image_bytes : HasBytes image) where
    size : (p : ℕ) → p < pages_of image → length (page_bytes image p) ≡ 4096
    size = page_whole image image_bytes.whole

    tables : TablesStand layout [] state
    tables = record {
      entries = record { entry = λ f. subst (λ (e : Entry). EntryAgrees layout e (held_at_build layout f) None) (sym (h.entries f)) (entries_agree layout f) };
      slots = record { versions = slots_stand image frames lps size state.frames h.slots };
      sealed_pages = record {
        sealed_page = λ k. subst (λ o. SealedPageAgrees layout o (live layout [] k) k) (sym (h.sealed k)) (sealed_agrees image frames lps size k);
        numbered = h.given;
      };
      mapping = record { mapped = m.mapped };
      presence = record { within = out.outside };
      tracking = record { built = pages_of image; steps_are = refl; stamped = λ f s e. absurd (let wrong : None ≡ Some s = e in cc) };
      frames = record { whole = h.whole };
      one_copy = one_copy layout [] [];
    }

    -- it is as the build leaves it
    is_built : IsBuilt layout image.bytes state
    is_built = record {
      bytes = image_bytes.bytes;
      whole = image_bytes.whole.bytes;
      tables = tables;
      pages = copies_stand image frames lps state h.runtime h.sealed;
      count = refl;
      queue = refl;
      outside = out.outside;
      flushed = out.flushed;
    }

-- what was built is a machine, with any processors that are outside
pub built_as : (image : Image) (frames lps : ℕ) (enclave : Built) → HasBytes image → HasAdded image frames lps enclave.encls (pages_of image) 6 →
    MapsEach (layout_of image frames lps) enclave.table → (processors : ℕ → Processor) → AreOutside processors → BuiltAs (layout_of image frames lps) image.bytes enclave processors
built_as image frames lps enclave bytes h m processors out = record {
  state = state_of image enclave.encls enclave.table processors;
  paging = is_paging image frames lps enclave.encls enclave.table processors h m out;
  mapped = λ p lt. refl;
  sized = m.sized;
  processors_are = refl;
  built = is_built image frames lps enclave.encls enclave.table processors h m out bytes;
}

-- and it has the pages of the image
pub holds_pages : (image : Image) (frames lps : ℕ) (encls : Enclave) → HasAdded image frames lps encls (pages_of image) 6 → HoldsPages image encls
holds_pages image frames lps encls h = record {
  runtime = h.runtime;
  program = program;
  measured = h.measured;
  spare = (let s = h.spare in omega arith);
  cycles = h.cycles;
}
  where
    program : (p : ℕ) (perm : Perm) → slice_get image.perms p ≡ Some perm →
        sealed_page_at encls.handles p ≡ Some (sealed_page_of (added_entry (record { 0 = p }) Reg perm) (page_bytes image p))
    program p perm is =
        let below = slice_get_within image.perms p perm is in
        let t : nat_lt p (pages_of image) ≡ true = grind (arith, nat_tests) in
        h.sealed p ∙ ap (λ b. if b then program_sealed image p else None) t
        ∙ ap (option_map (λ q. sealed_page_of (added_entry (record { 0 = p }) Reg q) (page_bytes image p))) is
