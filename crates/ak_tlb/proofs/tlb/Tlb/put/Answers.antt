use Rattle.std.proofs.Common.{◌≡◌, Bool, ◌∷◌, ◌++◌, [], Some, None, ap, sym, ◌∙◌}
use Rattle.std.specs.Prelude.{if◌then◌else◌}
use Rattle.ak_tlb.specs.Translations.{filled, put_in, added, place_in}
use Rattle.ak_tlb.proofs.Placed.{there_set, there_any, new_none}
use Rattle.ak_tlb.proofs.tlb.Tlb.put.Goals as goal

pub returns-in-Some : goal.returns-in-Some
unfolding filled
returns-in-Some c =
    let new = c.args.translation in
    let list = c.self.inside.translations.items in
    let place : place_in list new.access ≡ Some c.in-Some.place =
    ap (λ l. place_in l new.access) (sym c.as_slice.ensures.value) ∙ sym c.place_of.ensures ∙ c.in-Some.is in
    c.put_at.ensures ∙ there_set new list c.in-Some.place place
    ∙ ap (λ (b : Bool). if b then put_in new list else added new list) (sym (there_any new list c.in-Some.place place))
    ∙ ap (filled new) c.self.view_is

pub returns-in-None : goal.returns-in-None
unfolding filled
returns-in-None c =
    let new = c.args.translation in
    let list = c.self.inside.translations.items in
    let none : place_in list new.access ≡ None =
    ap (λ l. place_in l new.access) (sym c.as_slice.ensures.value) ∙ sym c.place_of.ensures ∙ c.in-None.is in
    c.push.ensures.items ∙ ap (λ l. l ++ new ∷ []) c.make_room.ensures.items
    ∙ ap (λ (b : Bool). if b then put_in new list else added new list) (sym (new_none new list none))
    ∙ ap (filled new) c.self.view_is
