-- What contracts see of an enclave's frames and of what is known of them. (SDM volume 3D, "Enclave Page Cache".)
use Rattle.std.specs.Prelude.{ℕ, List, replicate, slice_index_or}
use Rattle.ak_core.specs.declared.page.Entry.{Entry}
use Rattle.ak_measure.specs.declared.measurement.Measure.{Measure}
use Rattle.ak_sealed.specs.SealedPages.{Handles}
use Rattle.ak_track.specs.Tracking.{Marks}
use Rattle.ak_track.specs.declared.track.Stamp.{Stamp}

-- the EPCM; the bytes of each frame; the sealed pages; what tracking keeps, and the stamp of each frame; and the measurement so far
pub record Enclave : Type 0 where
  pub entries : List Entry
  pub frames : List (List ℕ)
  pub handles : Handles
  pub track : Marks
  pub stamps : List Stamp
  pub measure : Measure

-- a page of zeros
unfoldable pub blank_page : List ℕ
blank_page = replicate 4096 0

-- the bytes of a frame; a frame that there is not has zeros
abbrev pub frame_at : List (List ℕ) → ℕ → List ℕ
frame_at frames f = slice_index_or frames f blank_page

-- the stamp of a frame; a frame that there is not has the oldest
abbrev pub stamp_at : List Stamp → ℕ → Stamp
stamp_at stamps f = slice_index_or stamps f (record { cycles = 0 })
