-- Three moves of the kernel that were done: what each changes is said once, and all else computes to what it was.
use Rattle.std.proofs.Common.{◌≡◌, inl, ℕ, ◌+◌, List, [], ◌∷◌, length, refl, ap, sym, ◌∙◌, subst, arith}
use Rattle.std.specs.Prelude.{Bool, true, false, Option, Some, None, is_some, replicate, ◌==◌, if◌then◌else◌}
use Rattle.std.proofs.lemmas.Bool.{eqb-true}
use Rattle.std.proofs.lemmas.List.{length-append, length-replicate}
use Rattle.std.specs.Bool.{then_some}
use Rattle.ak_core.specs.Layout.{Layout}
use Rattle.ak_core.specs.declared.page.Entry.{Entry}
use Rattle.ak_core.specs.declared.page.Frame.{Frame}
use Rattle.ak_core.specs.declared.page.Page.{Page}
use Rattle.ak_core.specs.declared.page.Flags.{Flags}
use Rattle.ak_core.specs.declared.moves.Move.TheVariants.{SetPte, Eblock, Etrack}
use Rattle.ak_core.specs.declared.moves.Answer.TheVariants.{Ok}
use Rattle.ak_model.specs.Paging.Histories.{History, Change, Unchanged, Maps, Blocks, Cycles, WritesOut, Loads, Removes, MakesVa, Discards, Enters, Resumes, Exits, Interrupts, change_of}
use Rattle.ak_model.specs.Paging.Holdings.{Held, PageFrame, Mapping}
use Rattle.ak_model.specs.Paging.Frames.{held, blocked_at, blocked_after, blocks_first}
use Rattle.ak_epcm.specs.Entries.{entry_at}
use Rattle.ak_walk.specs.Agrees.{EntryAgrees, HoldsPage}
use Rattle.ak_relation.specs.State.TrackSteps.{steps_of, stamp_of}
use Rattle.ak_relation.specs.State.MachineState.{State}
use Rattle.ak_track.specs.Steps.{Cycled}
use Rattle.ak_relation.specs.State.Tables.{TablesStand}
use Rattle.ak_relation.specs.Premises.Leaves.{LeafKeeps}

-- ---- Stamps

freed : (b : Bool) (x y : Option ℕ) → is_some x ≡ is_some y → is_some (if b then None else x) ≡ is_some (if b then None else y)
freed true x y h = refl
freed false x y h = h

same_block : (c : Change) (f place clock : ℕ) (x y : Option ℕ) → is_some x ≡ is_some y → is_some (blocked_after c f place x) ≡ is_some (blocked_after c f clock y)
same_block (Blocks g) f place clock x y h = by_test (f == g) x y h
  where
    by_test : (b : Bool) (x y : Option ℕ) → is_some x ≡ is_some y → is_some (if b then blocks_first x place else x) ≡ is_some (if b then blocks_first y clock else y)
    by_test true None None h = refl
    by_test true None (Some y) h = refl
    by_test true (Some x) None h = refl
    by_test true (Some x) (Some y) h = refl
    by_test false x y h = h
same_block (Loads g k p va i blocked) f place clock x y h = by_test (f == g) blocked
  where
    by_test : (b c : Bool) → is_some (if b then then_some c place else x) ≡ is_some (if b then then_some c clock else y)
    by_test true true = refl
    by_test true false = refl
    by_test false c = h
same_block (MakesVa g) f place clock x y h = freed (f == g) x y h
same_block (WritesOut g va i k) f place clock x y h = freed (f == g) x y h
same_block (Removes g) f place clock x y h = freed (f == g) x y h
same_block Unchanged f place clock x y h = h
same_block (Maps p g flags) f place clock x y h = h
same_block Cycles f place clock x y h = h
same_block (Discards k) f place clock x y h = h
same_block (Enters lp v) f place clock x y h = h
same_block (Resumes lp) f place clock x y h = h
same_block (Exits lp exit) f place clock x y h = h
same_block (Interrupts lp) f place clock x y h = h

-- a frame has a stamp just where it is blocked
pub stamp-blocked : (past : History) (f : ℕ) → is_some (stamp_of past f) ≡ is_some (blocked_at past f)
stamp-blocked [] f = refl
stamp-blocked (pair ∷ past) f =
    same_block (change_of pair) f (length (steps_of past)) (length past + 1) (stamp_of past f) (blocked_at past f) (stamp-blocked past f)

module _ (layout : Layout) (past : History) (s : State) (h : TablesStand layout past s) where
  -- ---- A tracking cycle

  -- what a cycle keeps
  pub etrack_keeps : LeafKeeps layout past (Etrack, Ok) s (record s { track = Cycled ∷ s.track })
  etrack_keeps = record {
    since_is = λ lp. refl;
    opened = λ lp place g q is holds. refl;
    processors = refl;
    count = refl;
    queue = refl;
    copies = λ p. inl refl;
    tables = record {
      entries = h.entries;
      slots = h.slots;
      sealed_pages = h.sealed_pages;
      mapping = h.mapping;
      presence = h.presence;
      frames = h.frames;
      one_copy = h.one_copy;
      tracking = record { built = h.tracking.built; steps_are = ap (λ steps. Cycled ∷ steps) h.tracking.steps_are; stamped = h.tracking.stamped };
    };
  }

  -- ---- An entry of the page table

  -- what a new entry keeps
  pub set_pte_keeps : (p : Page) (f : Frame) (flags : Flags) →
      LeafKeeps layout past (SetPte p f flags, Ok) s
      (record s { table = λ q. if q == p.0 then record { frame = f.0; flags = flags } else s.table q })
  set_pte_keeps p f flags = record {
    since_is = λ lp. refl;
    opened = λ lp place g q is holds. refl;
    processors = refl;
    count = refl;
    queue = refl;
    copies = λ q. inl refl;
    tables = record {
      entries = h.entries;
      slots = h.slots;
      sealed_pages = h.sealed_pages;
      presence = h.presence;
      tracking = h.tracking;
      frames = h.frames;
      one_copy = h.one_copy;
      mapping = record { mapped = λ q lt. ap (λ (before : Mapping). if q == p.0 then record { frame = f.0; flags = flags } else before) (h.mapping.mapped q lt) };
    };
  }

  -- ---- A block

  blocked_page : (p place : ℕ) (e : Entry) (before : Option ℕ) → HoldsPage layout e p before →
      HoldsPage layout (record e { blocked = true }) p (blocks_first before place)
  blocked_page p place e before old = record {
    valid = old.valid;
    kind = old.kind;
    page = old.page;
    readable = old.readable;
    writable = old.writable;
    executable = old.executable;
    blocked = some_first before;
  }
    where
      some_first : (o : Option ℕ) → true ≡ is_some (blocks_first o place)
      some_first None = refl
      some_first (Some x) = refl

  blocked_entry : (p place : ℕ) (b : Bool) (old new : Entry) (k : Held) (before : Option ℕ) → (b ≡ true → k ≡ PageFrame p) →
      new ≡ (if b then record old { blocked = true } else old) → EntryAgrees layout old k before →
      EntryAgrees layout new k (if b then blocks_first before place else before)
  blocked_entry p place true old new k before is sets agrees =
      subst (λ (e : Entry). EntryAgrees layout e k (blocks_first before place)) (sym sets)
      (subst (λ j. EntryAgrees layout (record old { blocked = true }) j (blocks_first before place)) (sym (is refl))
      (blocked_page p place old before (subst (λ j. EntryAgrees layout old j before) (is refl) agrees)))
  blocked_entry p place false old new k before is sets agrees =
      subst (λ (e : Entry). EntryAgrees layout e k before) (sym sets) agrees

  new_stamp : (b : Bool) (built steps all before s' : ℕ) (o : Option ℕ) → (b ≡ true → is_some o ≡ false) → all ≡ steps + built →
      (o ≡ Some s' → before ≡ built + s') → (if b then blocks_first o steps else o) ≡ Some s' → (if b then all else before) ≡ built + s'
  new_stamp true built steps all before s' None none size old is = let e : steps ≡ s' = cc in omega arith
  new_stamp true built steps all before s' (Some x) none size old is = absurd (let n = none refl in cc)
  new_stamp false built steps all before s' o none size old is = old is

  -- the block of an unblocked page
  pub eblock_keeps : (f : Frame) (p : ℕ) (entries : List Entry) →
      ((g : ℕ) → entry_at entries g ≡ (if g == f.0 then record (entry_at s.entries g) { blocked = true } else entry_at s.entries g)) →
      held layout past f.0 ≡ PageFrame p → blocked_at past f.0 ≡ None →
      LeafKeeps layout past (Eblock f, Ok) s
      (record s { entries = entries; stamps = λ g. if g == f.0 then length s.track else s.stamps g })
  eblock_keeps f p entries sets is unblocked = record {
    since_is = λ lp. refl;
    opened = λ lp place g q is holds. refl;
    processors = refl;
    count = refl;
    queue = refl;
    copies = λ q. inl refl;
    tables = record {
      slots = h.slots;
      sealed_pages = h.sealed_pages;
      mapping = h.mapping;
      presence = h.presence;
      frames = h.frames;
      one_copy = h.one_copy;
      entries = record {
        entry = λ g. blocked_entry p (length past + 1) (g == f.0) (entry_at s.entries g) (entry_at entries g) (held layout past g) (blocked_at past g)
            (λ e. ap (held layout past) (eqb-true g f.0 e) ∙ is) (sets g) (h.entries.entry g);
      };
      tracking = record {
        built = h.tracking.built;
        steps_are = h.tracking.steps_are;
        stamped = λ g t e.
            new_stamp (g == f.0) h.tracking.built (length (steps_of past)) (length s.track) (s.stamps g) t (stamp_of past g)
            (λ same. stamp-blocked past g ∙ ap is_some (ap (blocked_at past) (eqb-true g f.0 same) ∙ unblocked))
            (ap length h.tracking.steps_are ∙ length-append (steps_of past) (replicate h.tracking.built Cycled) ∙ ap (λ n. length (steps_of past) + n) (length-replicate h.tracking.built Cycled))
            (h.tracking.stamped g t) e;
      };
    };
  }
