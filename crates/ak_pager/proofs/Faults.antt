-- What was noted of an exit, and the reason for a page fault of the program.
use Rattle.std.proofs.Common.{◌≡◌, ℕ, ◌+◌, ◌*◌, refl, ap, sym, arith}
use Rattle.std.specs.Prelude.{Bool, true, false, not, ◌==◌, if◌then◌else◌}
use Rattle.std.proofs.lemmas.Bool.{eqb-true}
use Rattle.ak_core.specs.Layout.{Layout}
use Rattle.ak_core.specs.Mem.{Access}
use Rattle.ak_core.specs.declared.page.Kind.{Kind}
use Rattle.ak_model.specs.Control.ControlState.{Reason, Denied, Missed, Broke}
use Rattle.ak_ssa.specs.declared.cause.Why.TheVariants.{Interrupt, Vector, PageFault}
use Rattle.ak_ssa.specs.SavedFrames.{SavedCause, NoCause, ByVector, ByPage, why_of}
use Rattle.ak_ssa.specs.FramesFit.{WhyFits, CauseFits, HasRoom}

-- ---- Reasons

-- by whether it is forbidden, and whether its cluster is in
abbrev pub reason_by : Bool → Bool → ℕ → Reason
reason_by forbidden is_in c = if forbidden then Denied else (if is_in then Broke else Missed c)

pub denied_by : (f b : Bool) (c : ℕ) → f ≡ true → reason_by f b c ≡ Denied
denied_by true b c e = refl
denied_by false b c e = absurd (cc)

pub broke_by : (f b : Bool) (c : ℕ) → f ≡ false → b ≡ true → reason_by f b c ≡ Broke
broke_by true b c e h = absurd (cc)
broke_by false true c e h = refl
broke_by false false c e h = absurd (cc)

pub missed_by : (f b : Bool) (c : ℕ) → f ≡ false → b ≡ false → reason_by f b c ≡ Missed c
missed_by true b c e h = absurd (cc)
missed_by false true c e h = absurd (cc)
missed_by false false c e h = refl

pub not-true : (a b : Bool) → a ≡ b → a ≡ true → not b ≡ false
not-true true true e h = refl
not-true true false e h = absurd (cc)
not-true false b e h = absurd (cc)

pub not-false : (a b : Bool) → a ≡ b → a ≡ false → not b ≡ true
not-false false false e h = refl
not-false false true e h = absurd (cc)
not-false true b e h = absurd (cc)

-- ---- Numbers that differ

differs-by : (a b : ℕ) (t : Bool) → (a ≡ b → ⊥) → (a == b) ≡ t → t ≡ false
differs-by a b true apart e = absurd (apart (eqb-true a b e))
differs-by a b false apart e = refl

pub differs : (a b : ℕ) → (a ≡ b → ⊥) → (a == b) ≡ false
differs a b apart = differs-by a b (a == b) apart refl

-- ---- What was noted

pub why_fits : (layout : Layout) → HasRoom layout → (cause : SavedCause) → CauseFits layout cause → WhyFits (why_of layout cause)
why_fits layout room NoCause fits = tt
why_fits layout room (ByVector v) fits = omega (arith, fits)
why_fits layout room (ByPage t) fits = omega (arith, room, fits)

-- nothing
pub none_noted : (layout : Layout) (cause : SavedCause) → Interrupt ≡ why_of layout cause → cause ≡ NoCause
none_noted layout NoCause e = refl
none_noted layout (ByVector v) e = absurd (cc)
none_noted layout (ByPage t) e = absurd (cc)

-- a vector
pub vector_noted : (layout : Layout) (v : ℕ) (cause : SavedCause) → Vector v ≡ why_of layout cause → cause ≡ ByVector v
vector_noted layout v NoCause e = absurd (cc)
vector_noted layout v (ByVector x) e = let same : v ≡ x = cc in ap ByVector (sym same)
vector_noted layout v (ByPage t) e = absurd (cc)

-- a page fault
pub record PageNoted (layout : Layout) (address : ℕ) (kind : Kind) (cause : SavedCause) : Type 0 where
  pub access : Access
  pub is : cause ≡ ByPage access
  pub address_is : address ≡ layout.base + 4096 * access.page.0
  pub kind_is : kind ≡ access.kind

pub page_noted : (layout : Layout) (address : ℕ) (kind : Kind) (cause : SavedCause) → PageFault address kind ≡ why_of layout cause → PageNoted layout address kind cause
page_noted layout address kind NoCause e = absurd (cc)
page_noted layout address kind (ByVector x) e = absurd (cc)
page_noted layout address kind (ByPage t) e = record { access = t; is = refl; address_is = cc; kind_is = cc }
