-- A page that is mapped for all that it allows is walkable for each access that it permits.
use Rattle.std.proofs.Common.{◌≡◌, ℕ}
use Rattle.std.specs.Prelude.{true, ◌&&◌, Option, Some, None}
use Rattle.std.proofs.lemmas.Bool.{and_parts, and_from}
use Rattle.ak_core.specs.Layout.{Layout}
use Rattle.ak_core.specs.declared.page.Flags.{Flags}
use Rattle.ak_core.specs.declared.page.Kind.{Kind}
use Rattle.ak_core.specs.declared.page.Kind.TheVariants.{Read, Write, Exec}
use Rattle.ak_core.specs.declared.page.Perm.{Perm}
use Rattle.ak_core.specs.declared.page.Perm.TheVariants.{R, Rw, Rx}
use Rattle.ak_model.specs.Paging.Pages.{allows, permits_by, permits, strong_by, strong_kind, perm_of}
use Rattle.ak_model.specs.Paging.Histories.{History}
use Rattle.ak_model.specs.Paging.PageTable.{pte}
use Rattle.ak_model.specs.Paging.Walk.{is_preset, flags_allow, is_in_frame, walkable}
use Rattle.ak_model.specs.Kernels.KernelRules.{is_mapped}

-- the flags for the strongest access let each permitted one through
flags_strong : (perm : Perm) (flags : Flags) (kind : Kind) → flags_allow flags (strong_by (Some perm)) ≡ true → allows perm kind ≡ true → flags_allow flags kind ≡ true
flags_strong R flags Read h p = h
flags_strong Rw flags Read h p = (and_parts (is_preset flags) flags.w h).0
flags_strong Rx flags Read h p = (and_parts (is_preset flags) flags.x h).0
flags_strong R flags Write h p = absurd (cc)
flags_strong Rw flags Write h p = h
flags_strong Rx flags Write h p = absurd (cc)
flags_strong R flags Exec h p = absurd (cc)
flags_strong Rw flags Exec h p = absurd (cc)
flags_strong Rx flags Exec h p = h

strong_walk : (o : Option Perm) (flags : Flags) (kind : Kind) → flags_allow flags (strong_by o) ≡ true → permits_by o kind ≡ true → flags_allow flags kind ≡ true
strong_walk None flags kind h p = absurd (cc)
strong_walk (Some perm) flags kind h p = flags_strong perm flags kind h p

pub walkable-strong : (layout : Layout) (past : History) (p : ℕ) (kind : Kind) → is_mapped layout past p ≡ true → permits layout p kind ≡ true → walkable layout past p kind ≡ true
walkable-strong layout past p kind h allowed =
    let entry = pte layout past p in
    let a = and_parts (permits layout p (strong_kind layout p)) (flags_allow entry.flags (strong_kind layout p) && is_in_frame layout past p entry.frame) h in
    let b = and_parts (flags_allow entry.flags (strong_kind layout p)) (is_in_frame layout past p entry.frame) a.1 in
    and_from (permits layout p kind) (flags_allow entry.flags kind && is_in_frame layout past p entry.frame) allowed
    (and_from (flags_allow entry.flags kind) (is_in_frame layout past p entry.frame) (strong_walk (perm_of layout p) entry.flags kind b.0 allowed) b.1)
