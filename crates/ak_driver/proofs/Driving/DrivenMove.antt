-- What the honest kernel does at each spot: its move is done and keeps the invariant.
use Rattle.std.proofs.Common.{◌≡◌, ℕ, ◌<◌, List, [], ◌∷◌, refl, sym, ◌∙◌, subst, ap}
use Rattle.std.specs.Prelude.{All, Bool, true, false, Some, None, find}
use Rattle.std.proofs.lemmas.List.Elements.{All-nil}
use Rattle.ak_core.specs.Layout.{Layout, IsValid}
use Rattle.ak_core.specs.declared.moves.Answer.{Answer}
use Rattle.ak_core.specs.declared.moves.Exit.{Exit}
use Rattle.ak_core.specs.declared.moves.Exit.TheVariants.{Still}
use Rattle.ak_core.specs.declared.moves.Move.{Move}
use Rattle.ak_core.specs.declared.moves.Move.TheVariants.{SetPte, ReadPte, Eblock, Etrack, Ewb, Eldu, Eldb, Eremove, Epa, Discard, Eenter, Eresume, Run, Interrupt}
use Rattle.ak_model.specs.Paging.Histories.{History, Exits, change, change_of}
use Rattle.ak_model.specs.Control.Trace.{Moment}
use Rattle.ak_model.specs.Control.Moments.{turn_moments}
use Rattle.ak_model.specs.Kernels.KernelRules.{resumes_early}
use Rattle.ak_model.specs.Stops.Blame.{resumes}
use Rattle.ak_model.specs.Paging.Inside.{inside, processors}
use Rattle.ak_model.specs.Control.ControlState.{Control, cssa}
use Rattle.ak_model.specs.Kernels.Counted.{saved_count, is_pending, service, Counts}
use Rattle.ak_model.specs.Kernels.Repeats.{is_done}
use Rattle.ak_model.specs.Control.Answers.{answer}
use Rattle.ak_model.specs.Control.Entering.{control_after}
use Rattle.ak_model.specs.Kernels.HonestKernel.{Passes, Gives, run_inside, rules, drive}
use Rattle.ak_model.specs.Laws.OneLiveCopy.{OneCopy}
use Rattle.ak_driver.proofs.Invariant.PageStates.{PageState}
use Rattle.ak_driver.proofs.Invariant.Spots.{Spot, Requested, Answering, Begins, Progress, control_at, is_within}
use Rattle.ak_driver.proofs.Invariant.HonestMoments.{IsHonest, HonestAt, dropped_for}
use Rattle.ak_driver.proofs.Invariant.ServingMoves.{moves_left}
use Rattle.ak_driver.specs.Requests.{is_run}
use Rattle.ak_driver.proofs.Turns.EnteringMoves.{nobody}

none_found : (test : ℕ → Bool) (xs : List ℕ) → ((q : ℕ) → test q ≡ false) → find test xs ≡ None
none_found test [] h = refl
none_found test (x ∷ xs) h = let e = h x in rw e (none_found test xs h)

-- from a request for cluster c a move leads on to it, with fewer moves left, or to its answer
abbrev pub ServesOrAnswers : Layout → History → (ℕ → PageState) → ℕ → History → (ℕ → PageState) → Spot → Type 0
ServesOrAnswers layout past states c after next (Requested d) =
    (d ≡ c)
    × (service after ≡ service past)
    × (moves_left layout (dropped_for (service past).request) c after next < moves_left layout (dropped_for (service past).request) c past states)
ServesOrAnswers layout past states c after next (Answering d (Begins v)) = d ≡ c
ServesOrAnswers layout past states c after next _ = ⊥

-- while a cluster is asked for and nobody is inside, each move does so, and none is a run
abbrev pub KeepsPace : Layout → History → (ℕ → PageState) → Spot → Move → History → (ℕ → PageState) → Spot → Type 0
KeepsPace layout past states (Requested c) move after next to = (is_run move ≡ false) × ServesOrAnswers layout past states c after next to
KeepsPace layout past states _ move after next to = Unit {0}

-- the move is the kernel's, it is done, and the invariant holds before each of its turns and after it
pub record Drives (layout : Layout) (past : History) (control : Control) (spot : Spot) (old : ℕ → PageState) (inputs : List ℕ) : Type 0 where
  pub move : Move
  pub driven : drive layout past inputs ≡ Some move
  pub answer_is : Answer
  pub answered : answer layout past control move ≡ answer_is
  pub done : is_done answer_is ≡ true
  pub next : Spot
  pub after : Progress
  pub states : ℕ → PageState
  pub holds : IsHonest layout ((move, answer_is) ∷ past) (control_after layout past control move answer_is) next after states
  pub leaves : (exit : Exit) → answer_is ≡ Answer.Exit exit → (exit ≡ Still → ⊥) → (is_within next ≡ false) × (change_of (move, answer_is) ≡ Exits 0 exit)
  pub turns : All (HonestAt layout) (turn_moments layout (record { past = past; control = control }) move)
  pub patient : resumes_early layout (record { past = past; control = control }) move ≡ false
  pub paced : KeepsPace layout past old spot move ((move, answer_is) ∷ past) states next

-- what a move of the kernel with this answer came to
pub record Made (layout : Layout) (moment : Moment) (spot : Spot) (old : ℕ → PageState) (m : Move) (a : Answer) : Type 0 where
  pub done : is_done a ≡ true
  pub next : Spot
  pub after : Progress
  pub states : ℕ → PageState
  pub holds : IsHonest layout ((m, a) ∷ moment.past) (control_after layout moment.past moment.control m a) next after states
  pub leaves : (exit : Exit) → a ≡ Answer.Exit exit → (exit ≡ Still → ⊥) → (is_within next ≡ false) × (change_of (m, a) ≡ Exits 0 exit)
  pub turns : All (HonestAt layout) (turn_moments layout moment m)
  pub patient : resumes_early layout moment m ≡ false
  pub paced : KeepsPace layout moment.past old spot m ((m, a) ∷ moment.past) states next

pub made_by : (layout : Layout) (moment : Moment) (spot : Spot) (old : ℕ → PageState) (inputs : List ℕ) (d : Drives layout moment.past moment.control spot old inputs) → Made layout moment spot old d.move d.answer_is
made_by layout moment spot old inputs d = record {
  done = d.done;
  next = d.next;
  after = d.after;
  states = d.states;
  holds = d.holds;
  leaves = d.leaves;
  turns = d.turns;
  patient = d.patient;
  paced = d.paced;
}

-- a move that is no resuming is no early one
pub patient_by : (layout : Layout) (past : History) (control : Control) (m : Move) (a : Answer) → answer layout past control m ≡ a → resumes (change m a) ≡ false
    → resumes_early layout (record { past = past; control = control }) m ≡ false
patient_by layout past control m a e h =
    let r : resumes (change m (answer layout past control m)) ≡ false = subst (λ x. resumes (change m x) ≡ false) (sym e) h in
    rw r refl

-- a move that is no run has no turns
pub turns_none : (layout : Layout) (past : History) (control : Control) (m : Move) → is_run m ≡ false → All (HonestAt layout) (turn_moments layout (record { past = past; control = control }) m)
turns_none layout past control (Run lp n) h = absurd (cc)
turns_none layout past control (SetPte p f flags) h = All-nil (HonestAt layout)
turns_none layout past control (ReadPte p) h = All-nil (HonestAt layout)
turns_none layout past control (Eblock f) h = All-nil (HonestAt layout)
turns_none layout past control Etrack h = All-nil (HonestAt layout)
turns_none layout past control (Ewb f va i) h = All-nil (HonestAt layout)
turns_none layout past control (Eldu f k p va i) h = All-nil (HonestAt layout)
turns_none layout past control (Eldb f k p va i) h = All-nil (HonestAt layout)
turns_none layout past control (Eremove f) h = All-nil (HonestAt layout)
turns_none layout past control (Epa f) h = All-nil (HonestAt layout)
turns_none layout past control (Discard k) h = All-nil (HonestAt layout)
turns_none layout past control (Eenter lp v) h = All-nil (HonestAt layout)
turns_none layout past control (Eresume lp) h = All-nil (HonestAt layout)
turns_none layout past control (Interrupt lp) h = All-nil (HonestAt layout)

module _ (layout : Layout) (past : History) (control : Control) (spot : Spot) (rest : Progress) (states : ℕ → PageState) (inputs : List ℕ) (valid : IsValid layout) (copies : OneCopy layout past)
    (counts : Counts (saved_count past) (is_pending past) (service past) control) (old : IsHonest layout past control spot rest states) where
  -- what the kernel counts at a spot
  pub saved : saved_count past ≡ cssa (control_at spot rest)
  saved = counts.saved_is ∙ ap cssa old.control_is

  pub pending : is_pending past ≡ (control_at spot rest).pending
  pending = counts.pending_is ∙ ap (λ c. c.pending) old.control_is

  -- nobody is run while nobody is inside
  pub none_inside : is_within spot ≡ false → run_inside layout past ≡ Passes
  none_inside out = let e = none_found (inside past) (processors layout) (nobody layout past control spot rest states old out) in rw e refl

  -- the kernel's move, where the rules give it
  pub gives : (m : Move) → rules layout past inputs ≡ Gives (Some m) → drive layout past inputs ≡ Some m
  gives m e = let g = old.granted m in rw (e, g) refl
