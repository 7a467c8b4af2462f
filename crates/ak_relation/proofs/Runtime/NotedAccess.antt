-- Of two saved frames that the same bytes have, each of a page fault, both note the same access.
use Rattle.std.proofs.Common.{◌≡◌, ℕ, ◌+◌, ◌*◌, ◌<◌, List, take, drop, refl, ap, sym, ◌∙◌, arith}
use Rattle.std.specs.Prelude.{◌^◌}
use Rattle.ak_core.specs.Layout.{Layout}
use Rattle.ak_core.specs.Mem.{Access}
use Rattle.ak_core.specs.declared.page.Kind.{Kind}
use Rattle.ak_core.specs.declared.page.Kind.TheVariants.{Read, Write, Exec}
use Rattle.ak_core.specs.declared.registers.Regs.{Regs}
use Rattle.ak_model.specs.Flat.Instructions.{le_bytes, le_value}
use Rattle.ak_model.specs.Paging.Pages.{all_pages}
use Rattle.ak_ssa.specs.FramesFit.{HasRoom}
use Rattle.ak_ssa.specs.ReadFrames.{kind_in}
use Rattle.ak_ssa.specs.SavedFrames.{SavedCause, ByPage, SavedFrame, code_of, saved_bytes, why_of, HasFrame}
use Rattle.ak_ssa.specs.declared.cause.Why.TheVariants.{PageFault}
use Rattle.ak_ssa.proofs.RegistersReturn.{value_back}

-- the kind of an error code
kind_back : (kind : Kind) → kind_in (code_of kind) ≡ kind
kind_back Read = refl
kind_back Write = refl
kind_back Exec = refl

code_low : (kind : Kind) → code_of kind < 256 ^ 4
code_low Read = omega arith
code_low Write = omega arith
code_low Exec = omega arith

-- the first numbers of a frame
address_at : (regs : Regs) (address : ℕ) (kind : Kind) → take 8 (saved_bytes regs (PageFault address kind)) ≡ le_bytes 8 address
unfolding saved_bytes
address_at regs address kind = refl

code_at : (regs : Regs) (address : ℕ) (kind : Kind) → take 4 (drop 8 (saved_bytes regs (PageFault address kind))) ≡ le_bytes 4 (code_of kind)
unfolding saved_bytes
code_at regs address kind = refl

module _ (layout : Layout) (room : HasRoom layout) (place : ℕ) (bytes : List ℕ) where
  -- the frame's bytes begin with the access that it notes
  noted_at : (frame : SavedFrame) (t : Access) → HasFrame layout place bytes frame → frame.cause ≡ ByPage t →
      take 200 (drop place bytes) ≡ saved_bytes frame.regs (PageFault (layout.base + 4096 * t.page.0) t.kind)
  noted_at frame t has noted = has ∙ ap (λ (cause : SavedCause). saved_bytes frame.regs (why_of layout cause)) noted

  address_is : (frame : SavedFrame) (t : Access) → HasFrame layout place bytes frame → frame.cause ≡ ByPage t → t.page.0 < all_pages layout →
      le_value (take 8 (take 200 (drop place bytes))) ≡ layout.base + 4096 * t.page.0
  address_is frame t has noted low =
      ap (λ xs. le_value (take 8 xs)) (noted_at frame t has noted) ∙ ap le_value (address_at frame.regs (layout.base + 4096 * t.page.0) t.kind)
      ∙ value_back 8 (layout.base + 4096 * t.page.0) (omega (arith, room, low))

  kind_is : (frame : SavedFrame) (t : Access) → HasFrame layout place bytes frame → frame.cause ≡ ByPage t → kind_in (le_value (take 4 (drop 8 (take 200 (drop place bytes))))) ≡ t.kind
  kind_is frame t has noted =
      ap (λ xs. kind_in (le_value (take 4 (drop 8 xs)))) (noted_at frame t has noted) ∙ ap (λ xs. kind_in (le_value xs)) (code_at frame.regs (layout.base + 4096 * t.page.0) t.kind)
      ∙ ap kind_in (value_back 4 (code_of t.kind) (code_low t.kind)) ∙ kind_back t.kind

  -- both note it
  pub same_noted : (frame other : SavedFrame) (t u : Access) → HasFrame layout place bytes frame → HasFrame layout place bytes other → frame.cause ≡ ByPage t → other.cause ≡ ByPage u →
      t.page.0 < all_pages layout → u.page.0 < all_pages layout → t ≡ u
  same_noted frame other t u has have noted notes low small =
      let addresses = sym (address_is frame t has noted low) ∙ address_is other u have notes small in
      let pages : t.page.0 ≡ u.page.0 = omega (arith, addresses) in
      let kinds = sym (kind_is frame t has noted) ∙ kind_is other u have notes in
      ap (λ p. let access : Access = record { page = record { 0 = p }; kind = t.kind } in access) pages
      ∙ ap (λ k. let access : Access = record { page = record { 0 = u.page.0 }; kind = k } in access) kinds
