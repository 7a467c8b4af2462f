-- When an enclave is the paging part of a machine. (SDM volume 3D, "Enclave Page Cache".)
use Rattle.std.specs.Prelude.{◌≡◌, ℕ, ◌<◌, true, length}
use Rattle.ak_core.specs.Layout.{Layout}
use Rattle.ak_core.specs.declared.moves.Move.{Move}
use Rattle.ak_epcm.specs.Entries.{entry_at}
use Rattle.ak_sealed.specs.SealedPages.{sealed_page_at}
use Rattle.ak_track.specs.Steps.{inside_by}
use Rattle.ak_track.specs.Tracking.{HoldsSteps, StampOf}
use Rattle.ak_relation.specs.State.MachineState.{State}
use Rattle.ak_relation.specs.Premises.LeafDoes.{DoesLeaf}
use Rattle.ak_encls.specs.Enclave.{Enclave, frame_at, stamp_at}

-- the machine has these entries, bytes and sealed pages; tracking stands for its steps; the stamp of each blocked frame is that of
-- the machine's; and a processor is inside just where the steps say so
pub record IsPaging (layout : Layout) (encls : Enclave) (state : State) : Type 0 where
  pub count : length encls.entries ≡ layout.frames
  pub entries : state.entries ≡ encls.entries
  pub frames : (f : ℕ) → state.frames f ≡ frame_at encls.frames f
  pub sealed_pages : (k : ℕ) → state.sealed_pages k ≡ sealed_page_at encls.handles k
  pub next : state.next ≡ length encls.handles.sealed_pages
  pub track : HoldsSteps encls.track layout.lps state.track
  pub stamps : (f : ℕ) → (entry_at encls.entries f).blocked ≡ true → StampOf (stamp_at encls.stamps f) layout.lps state.track (state.stamps f)
  pub within : (lp : ℕ) → lp < layout.lps → (state.processors lp).inside ≡ inside_by state.track lp

-- a leaf that is done leads from the machine to some machine of which this is the paging part
pub record LeadsTo (layout : Layout) (old : State) (m : Move) (encls : Enclave) : Type 0 where
  pub state : State
  pub paging : IsPaging layout encls state
  pub does : DoesLeaf old state m
