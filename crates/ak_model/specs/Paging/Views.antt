-- What the leaf instructions of the kernel look at. The view may be that of a history, or that of a machine's own tables. (SDM
-- volume 3D, "SGX Instruction References".)
use Rattle.std.specs.Prelude.{ℕ, Bool, Option, is_some}
use Rattle.ak_core.specs.Layout.{Layout}
use Rattle.ak_model.specs.Paging.Histories.{History}
use Rattle.ak_model.specs.Paging.Holdings.{Held}
use Rattle.ak_model.specs.Paging.Frames.{held, blocked_at}
use Rattle.ak_model.specs.Paging.Handles.{given, page_of, live, slot}
use Rattle.ak_model.specs.Paging.Inside.{someone_inside}
use Rattle.ak_model.specs.Paging.Tracking.{tracked, incomplete}

-- the paging state, as the rows of the leaves read it
pub record View : Type 0 where
  pub frames : ℕ  -- how many frames there are
  pub held : ℕ → Held  -- what each frame holds
  pub blocked : ℕ → Bool  -- the frame's page is blocked
  pub tracked : ℕ → Bool  -- a tracking cycle since then is over
  pub slot : ℕ → ℕ → Option ℕ  -- the handle whose version a slot holds
  pub live : ℕ → Bool  -- the handle was given and not discarded
  pub page_of : ℕ → ℕ  -- the page that a handle seals
  pub given : ℕ  -- how many handles were given
  pub incomplete : Bool  -- the last tracking cycle is not over
  pub active : Bool  -- a processor is inside

-- the view of a history
abbrev pub view_of : Layout → History → View
view_of layout past = record {
  frames = layout.frames;
  held = held layout past;
  blocked = λ f. is_some (blocked_at past f);
  tracked = tracked layout past;
  slot = slot layout past;
  live = live layout past;
  page_of = page_of layout past;
  given = given layout past;
  incomplete = incomplete layout past;
  active = someone_inside layout past;
}
