use Rattle.std.proofs.Common.{◌≡◌, ◌≤◌, List, [], length, drop, arith, refl, ap, sym, ◌∙◌, subst}
use Rattle.std.proofs.lemmas.List.{drop_all}
use Rattle.std.specs.List.{sum_by}
use Rattle.ak_model.specs.Paging.Histories.{History}
use Rattle.ak_script.specs.Script.{moves_in}
use Rattle.ak_script.specs.declared.items.Item.{Item}
use Rattle.ak_top.specs.Follows.{Leads, past_of}
use Rattle.ak_top.proofs.Following.{leads_more, room_more}
use Rattle.ak_top.proofs.session.run_script.Goals as goal

pub loop-item-init : goal.loop-item-init
loop-item-init c =
    let begun = c.in_ok-session.ensures in
    let script = c.args.script.now in
    let items = c.items-item-items.ensures.value in
    record {
      layout = begun.layout;
      moves =
          let none : length c.in_ok-session.session.run.journal.moves ≡ 0 = ap length begun.moves in
          let few = subst (λ (items : List Item). sum_by moves_in items ≤ 20000) (sym items) c.items-item-items.ensures.limits.few_moves in omega arith;
      stands = begun.stands;
      leads = λ image built last rest.
          let L : List Item → History → Type 0 = λ items past. Leads c.args.machine.layout script.inputs items past last in
          subst (L script.items) begun.past (subst (λ items. L items (past_of c.in_ok-session.session.run.journal)) items rest);
    }

pub loop-item-preserved : goal.loop-item-preserved
loop-item-preserved c =
    let items = c.items-item-items.result.now in
    let i = c.loop-item.item-index in
    let so_far = c.loop-item.invariant in
    let took = c.in_ok-take.ensures in
    record {
      layout = c.take.ensures.layout ∙ so_far.layout;
      moves = room_more items i _ _ _ c.loop-item-test.true so_far.moves took.moves;
      stands = λ image built. took.stands image (so_far.stands image built);
      leads = λ image built last rest.
          let makes = rw (c.inputs.ensures.value, so_far.layout) at (took.makes image (so_far.stands image built)) in
          so_far.leads image built last
          (leads_more c.args.machine.layout c.args.script.now.inputs items i _ (past_of c.loop-item.session.run.journal) (past_of c.take.new.self.run.journal) last
          c.loop-item-test.true makes rest);
    }

pub returns-clause-follows : goal.returns-clause-follows
returns-clause-follows c image built =
    let items = c.items-item-items.result.now in
    let past = past_of c.loop-item.session.run.journal in
    let L : List Item → Type 0 = λ items. Leads c.args.machine.layout c.args.script.now.inputs items past past in
    let none : [] ≡ drop c.loop-item.item-index items = sym (drop_all c.loop-item.item-index items (omega arith)) in
    c.loop-item.invariant.leads image built past (subst L none refl)

pub returns-clause-faithful : goal.returns-clause-faithful
returns-clause-faithful c image built = (c.loop-item.invariant.stands image built).faithful
