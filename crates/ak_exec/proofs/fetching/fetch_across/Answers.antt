use Rattle.std.proofs.Common.{◌≡◌, ℕ, ◌++◌, take, refl, ap, sym, ◌∙◌}
use Rattle.ak_core.specs.declared.instruction.Instr.{Instr}
use Rattle.ak_core.specs.declared.instruction.Decoded.{Decoded}
use Rattle.ak_core.specs.declared.instruction.Decoded.TheVariants.{Whole, NeedMore, Illegal}
use Rattle.ak_exec.specs.declared.fetching.Fetched.TheVariants.{Raised}
use Rattle.ak_exec.specs.Fetches.{found_in}
use Rattle.ak_exec.proofs.Windows.{by_window}
use Rattle.ak_exec.proofs.fetching.fetch_across.Goals as goal

pub returns-in-Whole-clause-crosses : goal.returns-in-Whole-clause-crosses
returns-in-Whole-clause-crosses g c =
    let all = c.args.window.now.items ++ g.M.Mem.bytes c.args.mem.now c.args.next.0 in
    let window : c.deref.result.now ≡ take 10 all =
    c.deref.ensures.0 ∙ c.take_bytes.ensures ∙ ap (λ f. take 10 (c.args.window.now.items ++ f c.args.next.0)) c.in_default.ensures.bytes in
    record {
      granted = c.in_default.ensures.touch.ok;
      held = c.in_default.ensures.touch.held;
      decoded = ap found_in (sym c.in-Whole.is ∙ by_window c.deref.result.now all c.decode.result c.decode.ensures.table window);
    }

-- what is no whole instruction raises vector 6
raised : (d : Decoded) → ((instr : Instr) (size : ℕ) → d ≡ Whole instr size → ⊥) → Raised 6 ≡ found_in d
raised (Whole instr size) no_whole = absurd (no_whole instr size refl)
raised NeedMore no_whole = refl
raised Illegal no_whole = refl

pub returns-in_default-decode-clause-crosses : goal.returns-in_default-decode-clause-crosses
returns-in_default-decode-clause-crosses g c =
    let all = c.args.window.now.items ++ g.M.Mem.bytes c.args.mem.now c.args.next.0 in
    let window : c.deref.result.now ≡ take 10 all =
    c.deref.ensures.0 ∙ c.take_bytes.ensures ∙ ap (λ f. take 10 (c.args.window.now.items ++ f c.args.next.0)) c.in_default.ensures.bytes in
    record {
      granted = c.in_default.ensures.touch.ok;
      held = c.in_default.ensures.touch.held;
      decoded = raised c.decode.result c.in_default-decode.not-Whole ∙ ap found_in (by_window c.deref.result.now all c.decode.result c.decode.ensures.table window);
    }
