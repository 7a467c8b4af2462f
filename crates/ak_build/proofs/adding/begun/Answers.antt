use Rattle.std.proofs.Common.{◌≡◌, ℕ, [], length, ap, sym, ◌∙◌, subst, arith}
use Rattle.std.specs.Prelude.{max}
use Rattle.ak_core.specs.Layout.{enclave_size}
use Rattle.ak_measure.specs.Absorbed.{HasAbsorbed}
use Rattle.ak_measure.specs.Blocks.{create_block}
use Rattle.ak_measure.specs.declared.measurement.Measure.{Measure}
use Rattle.ak_sealed.specs.SealedPages.{Handles}
use Rattle.ak_track.specs.Tracking.{Marks, HoldsSteps}
use Rattle.ak_encls.specs.Enclave.{Enclave}
use Rattle.ak_build.proofs.Begun.{begun}
use Rattle.ak_build.proofs.adding.begun.Goals as goal

-- as much as is asked, where there was none
no_less : (a n m : ℕ) → a ≡ 0 → n ≡ m → max a n ≡ m
no_less a n m none same = ap (λ (k : ℕ). max k n) none ∙ first n ∙ same
  where
    first : (n : ℕ) → max 0 n ≡ n
    first n = omega arith

pub returns-clause-begun : goal.returns-clause-begun
returns-clause-begun c =
    let image = c.args.image.now in
    let start = c.in_ok-encls.ensures in
    let after = c.add_va.ensures in
    let kept = c.in_ok-reserve.ensures.rest in
    let none : c.in_ok-encls.encls.handles.spare ≡ 0 = ap (λ (h : Handles). h.spare) start.handles in
    begun image c.args.frames c.args.lps c.requires.some_frames c.reserve.new.self c.add_va.new.self
    (ap (λ (e : Enclave). e.entries) kept ∙ start.entries)
    (ap (λ (e : Enclave). e.frames) kept ∙ start.frames)
    (subst (λ (t : Marks). HoldsSteps t c.args.lps []) (sym (ap (λ (e : Enclave). e.track) after.rest ∙ ap (λ (e : Enclave). e.track) kept)) start.track)
    after.entries after.frames after.each_frame
    (ap (λ (e : Enclave). e.handles.sealed_pages) (after.rest) ∙ ap (λ (e : Enclave). e.handles.sealed_pages) kept ∙ ap (λ (h : Handles). h.sealed_pages) start.handles)
    (ap (λ (e : Enclave). e.handles.spare) after.rest ∙ c.in_ok-reserve.ensures.ok ∙ no_less c.in_ok-encls.encls.handles.spare c.pages.result (length image.perms) none c.pages.ensures.pages)
    (subst (λ (m : Measure). HasAbsorbed m (create_block (enclave_size (length image.perms)))) (sym (ap (λ (e : Enclave). e.measure) after.rest ∙ ap (λ (e : Enclave). e.measure) kept))
    (subst (λ (n : ℕ). HasAbsorbed c.in_ok-encls.encls.measure (create_block n)) c.size.ensures start.measure))
