-- What the build comes to: a machine in which nothing has happened yet, with the bytes of the image. (SDM volume 3D, "Enclave Life
-- Cycle".)
use Rattle.std.specs.Prelude.{◌≡◌, ℕ, ◌+◌, ◌<◌, false, List, [], length, Some, slice_get}
use Rattle.ak_core.specs.Layout.{Layout}
use Rattle.ak_core.specs.declared.page.Perm.{Perm}
use Rattle.ak_core.specs.declared.page.PageType.TheVariants.{Reg}
use Rattle.ak_model.specs.Paging.Pages.{all_pages}
use Rattle.ak_pte.specs.Table.{pte_at}
use Rattle.ak_walk.specs.Mappings.{mapping_of}
use Rattle.ak_measure.specs.Absorbed.{HasAbsorbed}
use Rattle.ak_sealed.specs.SealedPages.{sealed_page_at, sealed_page_of}
use Rattle.ak_image.specs.Built.{pages_of, page_bytes, image_blocks}
use Rattle.ak_image.specs.Image.{Image}
use Rattle.ak_relation.specs.State.MachineState.{Processor, State}
use Rattle.ak_relation.specs.Premises.Built.{IsBuilt}
use Rattle.ak_encls.specs.Building.{added_entry}
use Rattle.ak_encls.specs.Enclave.{Enclave, frame_at}
use Rattle.ak_encls.specs.Paging.{IsPaging}
use Rattle.ak_build.specs.declared.building.Built.{Built}

-- each processor is outside, and has nothing cached
pub record AreOutside (processors : ℕ → Processor) : Type 0 where
  pub outside : (lp : ℕ) → (processors lp).inside ≡ false
  pub flushed : (lp : ℕ) → (processors lp).fills ≡ []

-- a machine with these processors, of which this is the paging part and the page table, is as the build of an image of these bytes
-- leaves it
pub record BuiltAs (layout : Layout) (image : List ℕ) (enclave : Built) (processors : ℕ → Processor) : Type 0 where
  pub state : State
  pub paging : IsPaging layout enclave.encls state
  pub mapped : (p : ℕ) → p < all_pages layout → state.table p ≡ mapping_of (pte_at enclave.table p)
  pub sized : length enclave.table ≡ all_pages layout
  pub processors_are : state.processors ≡ processors
  pub built : IsBuilt layout image state

-- the pages of the runtime are in frames 2 to 7, each page of the program is under the handle of its number, with its permission, and
-- each has the bytes of the image; all are measured; no spare is left; and there was one cycle of tracking for each page of the program
pub record HoldsPages (image : Image) (encls : Enclave) : Type 0 where
  pub runtime : (i : ℕ) → i < 6 → frame_at encls.frames (2 + i) ≡ page_bytes image (pages_of image + i)
  pub program : (p : ℕ) (perm : Perm) → slice_get image.perms p ≡ Some perm →
      sealed_page_at encls.handles p ≡ Some (sealed_page_of (added_entry (record { 0 = p }) Reg perm) (page_bytes image p))
  pub measured : HasAbsorbed encls.measure (image_blocks image)
  pub spare : encls.handles.spare ≡ 0
  pub cycles : encls.track.cycles ≡ pages_of image
