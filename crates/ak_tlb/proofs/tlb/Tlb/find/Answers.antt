use Rattle.std.proofs.Common.{◌≡◌, List, Some, None, ap, rules, sym, ◌∙◌}
use Rattle.std.specs.Prelude.{is_some}
use Rattle.std.specs.Option.{option_copied}
use Rattle.ak_core.specs.Mem.{access_to}
use Rattle.ak_tlb.specs.declared.translation.Translation.{Translation}
use Rattle.ak_tlb.specs.Translations.{found, frame_in}
use Rattle.ak_tlb.proofs.Holding.{kept_found}
use Rattle.ak_tlb.proofs.tlb.Tlb.find.Goals as goal

pub returns-in-Some-clause-last : goal.returns-in-Some-clause-last
returns-in-Some-clause-last c fills holds =
    let is : frame_in (found c.args.self.now (access_to c.args.p.0 c.args.k)) ≡ Some c.in-Some.translation.now.frame = search rules in
    holds.last (access_to c.args.p.0 c.args.k) c.in-Some.translation.now.frame is

pub returns-in-None-clause-kept : goal.returns-in-None-clause-kept
returns-in-None-clause-kept c fills holds kept =
    let is : frame_in (found c.args.self.now (access_to c.args.p.0 c.args.k)) ≡ None =
    ap (λ (list : List Translation). frame_in (found list (access_to c.args.p.0 c.args.k))) (sym c.self.view_is ∙ sym c.as_slice.ensures.value)
    ∙ ap frame_in (sym c.translation_of.ensures ∙ ap option_copied c.in-None.is) in
    ap is_some (sym is) ∙ kept_found c.args.self.now fills (access_to c.args.p.0 c.args.k) holds kept
