use Rattle.std.proofs.Common.{◌≡◌, ℕ, ◌≤◌, List, length, ap, ◌∙◌, subst, arith}
use Rattle.ak_model.specs.Paging.Pages.{tcs_page}
use Rattle.ak_encls.specs.Enclave.{frame_at}
use Rattle.ak_enclu.specs.TcsBytes.{saved_of}
use Rattle.ak_machine.specs.Machines.{HasBytes, IsSound, Parts}
use Rattle.ak_machine.proofs.Walks.{few_told, stack_told, told}
use Rattle.ak_machine.proofs.machine.Machine.cssa.Goals as goal

pub overflow_cast-result : goal.overflow_cast-result
overflow_cast-result c =
    let tells : (x : List ℕ) × HasBytes c.args.self.now.encls (tcs_page c.args.self.now.layout) x × (c.saved.result ≡ saved_of x) =
    told c.args.self.now c.epcm.result.now c.in-Some.frame.0 c.tcs_page.result c.saved.result c.frame.result.now
    (c.epcm.ensures ∙ ap (λ (m : Parts). m.encls.entries) c.self.view_is)
    (c.tcs_page.ensures ∙ ap length c.perms.ensures.perms ∙ ap (λ (m : Parts). tcs_page m.layout) c.self.view_is)
    c.in-Some.ensures.some (c.frame.ensures ∙ ap (λ (m : Parts). frame_at m.encls.frames c.in-Some.frame.0) c.self.view_is) c.saved.ensures in
    let few : saved_of tells.0 ≤ 3 = few_told c.args.self.now (subst IsSound c.self.view_is c.self.invariant.0) tells.0 tells.1 in
    let is : c.saved.result ≡ saved_of tells.0 = tells.2 in
    omega (arith, few, is)

pub returns-in-Some-clause-held : goal.returns-in-Some-clause-held
returns-in-Some-clause-held c =
    told c.args.self.now c.epcm.result.now c.in-Some.frame.0 c.tcs_page.result c.saved.result c.frame.result.now
    (c.epcm.ensures ∙ ap (λ (m : Parts). m.encls.entries) c.self.view_is)
    (c.tcs_page.ensures ∙ ap length c.perms.ensures.perms ∙ ap (λ (m : Parts). tcs_page m.layout) c.self.view_is)
    c.in-Some.ensures.some (c.frame.ensures ∙ ap (λ (m : Parts). frame_at m.encls.frames c.in-Some.frame.0) c.self.view_is) c.saved.ensures

pub returns-in-Some-clause-most : goal.returns-in-Some-clause-most
returns-in-Some-clause-most c =
    let tells : (x : List ℕ) × HasBytes c.args.self.now.encls (tcs_page c.args.self.now.layout) x × (c.saved.result ≡ saved_of x) =
    told c.args.self.now c.epcm.result.now c.in-Some.frame.0 c.tcs_page.result c.saved.result c.frame.result.now
    (c.epcm.ensures ∙ ap (λ (m : Parts). m.encls.entries) c.self.view_is)
    (c.tcs_page.ensures ∙ ap length c.perms.ensures.perms ∙ ap (λ (m : Parts). tcs_page m.layout) c.self.view_is)
    c.in-Some.ensures.some (c.frame.ensures ∙ ap (λ (m : Parts). frame_at m.encls.frames c.in-Some.frame.0) c.self.view_is) c.saved.ensures in
    let few : saved_of tells.0 ≤ 3 = few_told c.args.self.now (subst IsSound c.self.view_is c.self.invariant.0) tells.0 tells.1 in
    let is : c.saved.result ≡ saved_of tells.0 = tells.2 in
    omega (arith, few, is)

pub returns-in-Some-clause-stands : goal.returns-in-Some-clause-stands
returns-in-Some-clause-stands c image past control turns state machine h =
    let tells : (x : List ℕ) × HasBytes c.args.self.now.encls (tcs_page c.args.self.now.layout) x × (c.saved.result ≡ saved_of x) =
    told c.args.self.now c.epcm.result.now c.in-Some.frame.0 c.tcs_page.result c.saved.result c.frame.result.now
    (c.epcm.ensures ∙ ap (λ (m : Parts). m.encls.entries) c.self.view_is)
    (c.tcs_page.ensures ∙ ap length c.perms.ensures.perms ∙ ap (λ (m : Parts). tcs_page m.layout) c.self.view_is)
    c.in-Some.ensures.some (c.frame.ensures ∙ ap (λ (m : Parts). frame_at m.encls.frames c.in-Some.frame.0) c.self.view_is) c.saved.ensures in
    tells.2 ∙ stack_told c.args.self.now image past control turns state machine h tells.0 tells.1
