-- What an answer shows is read of its change: only a run that leaves shows an output.
use Rattle.std.proofs.Common.{◌≡◌, ℕ, refl, sym, ◌∙◌}
use Rattle.std.specs.Prelude.{Bool, true, false, not, Option, Some, None, is_some, nat_lt, if◌then◌else◌}
use Rattle.ak_core.specs.Layout.{Layout}
use Rattle.ak_core.specs.declared.moves.Answer.{Answer}
use Rattle.ak_core.specs.declared.moves.Answer.TheVariants.{Ok, OkHandle, NotEpc, IsSecs, InUse, Blocked, NotBlocked, NotTracked, PrevIncomplete, BadVa, SlotOccupied, MacFail, EnclaveActive, NoHandle, NoPage, NoLp, Inside, Outside, TcsFault, Busy, Gp, Pending, SsaFault}
use Rattle.ak_core.specs.declared.moves.Exit.{Exit}
use Rattle.ak_core.specs.declared.moves.Exit.TheVariants.{Still}
use Rattle.ak_core.specs.declared.moves.Move.{Move}
use Rattle.ak_core.specs.declared.moves.Move.TheVariants.{SetPte, ReadPte, Eblock, Etrack, Ewb, Eldu, Eldb, Eremove, Epa, Discard, Eenter, Eresume, Run, Interrupt}
use Rattle.ak_core.specs.declared.page.Lp.{Lp}
use Rattle.ak_model.specs.Paging.Pages.{all_pages}
use Rattle.ak_model.specs.Paging.Histories.{History, Change, Exits, change, if_ok, if_left}
use Rattle.ak_model.specs.Paging.Holdings.{Held, FreeFrame, SecsFrame, VaFrame, PageFrame}
use Rattle.ak_model.specs.Paging.Frames.{held, blocked_at}
use Rattle.ak_model.specs.Paging.PageTable.{pte}
use Rattle.ak_model.specs.Paging.Inside.{someone_inside}
use Rattle.ak_model.specs.Paging.Views.{View, view_of}
use Rattle.ak_model.specs.Control.ControlState.{Control}
use Rattle.ak_model.specs.Control.LeafRows.{frame_row, if_page, has_slot, write_out_row, mac_row, load_row, remove_by_row}
use Rattle.ak_model.specs.Control.Answers.{if_outside, enter_answer, resume_answer, answer}
use Rattle.ak_model.specs.Sound.Outputs.{output_by, shown_by}
use Rattle.ak_model.specs.Laws.ShownOutputs.{output_of_change}
use Rattle.ak_model.proofs.Paging.Tests.{either_way}
use Rattle.ak_model.proofs.Paging.ChangesByAnswer.{ok_holds, handle_holds}

-- an answer shows no output
record IsSilent (a : Answer) : Type 0 where
  pub silent : shown_by a ≡ None

-- an answer that is known
known : (a : Answer) → shown_by a ≡ None → IsSilent a
known a h = record { silent = h }

-- the first answer or the second
one_of : (b : Bool) (x y : Answer) → IsSilent x → IsSilent y → IsSilent (if b then x else y)
one_of b x y h k = either_way IsSilent b x y h k

-- ---- Leaves

module _ (view : View) where
  frame_silent : (f : ℕ) (a : Answer) → IsSilent a → IsSilent (frame_row view f a)
  frame_silent f a h = one_of _ NotEpc _ (known NotEpc refl) (one_of _ IsSecs a (known IsSecs refl) h)

  page_silent : (h : Held) (a : Answer) → IsSilent a → IsSilent (if_page h a)
  page_silent FreeFrame a h = known _ refl
  page_silent SecsFrame a h = known _ refl
  page_silent VaFrame a h = known _ refl
  page_silent (PageFrame p) a h = h

  block_silent : (h : Held) (blocked : Bool) → IsSilent (if_page h (if blocked then Blocked else Ok))
  block_silent h blocked = page_silent h (if blocked then Blocked else Ok) (one_of blocked Blocked Ok (known Blocked refl) (known Ok refl))

  checks_silent : (h : Held) (unblocked untracked bad full : Bool) (a : Answer) → IsSilent a →
      IsSilent (if_page h (if unblocked then NotBlocked else (if untracked then NotTracked else (if bad then BadVa else (if full then SlotOccupied else a)))))
  checks_silent h unblocked untracked bad full a s =
      page_silent h (if unblocked then NotBlocked else (if untracked then NotTracked else (if bad then BadVa else (if full then SlotOccupied else a))))
      (one_of unblocked NotBlocked _ (known NotBlocked refl) (one_of untracked NotTracked _ (known NotTracked refl)
      (one_of bad BadVa _ (known BadVa refl) (one_of full SlotOccupied a (known SlotOccupied refl) s))))

  write_out_silent : (f va i : ℕ) → IsSilent (write_out_row view f va i)
  write_out_silent f va i =
      frame_silent f _
      (checks_silent (view.held f) (not (view.blocked f)) (not (view.tracked f)) (not (has_slot view va i)) (is_some (view.slot va i))
      (OkHandle (record { 0 = view.given })) (known (OkHandle (record { 0 = view.given })) refl))

  mac_silent : (o : Option ℕ) (k p : ℕ) → IsSilent (mac_row view o k p)
  mac_silent None k p = known _ refl
  mac_silent (Some j) k p = one_of _ Ok MacFail (known Ok refl) (known MacFail refl)

  load_silent : (f k p va i : ℕ) → IsSilent (load_row view f k p va i)
  load_silent f k p va i =
      frame_silent f _ (one_of _ InUse _ (known InUse refl) (one_of _ BadVa _ (known BadVa refl) (one_of _ NoHandle _ (known NoHandle refl) (mac_silent (view.slot va i) k p))))

  removed_silent : (active : Bool) (h : Held) → IsSilent (remove_by_row active h)
  removed_silent active FreeFrame = known _ refl
  removed_silent active SecsFrame = known _ refl
  removed_silent active VaFrame = known _ refl
  removed_silent active (PageFrame p) = one_of active EnclaveActive Ok (known EnclaveActive refl) (known Ok refl)

-- ---- Entering

module _ (layout : Layout) (past : History) (control : Control) where
  outside_silent : (lp : ℕ) (a : Answer) → IsSilent a → IsSilent (if_outside layout past lp a)
  outside_silent lp a h = one_of _ NoLp _ (known NoLp refl) (one_of _ Inside _ (known Inside refl) (one_of _ TcsFault _ (known TcsFault refl) (one_of _ Busy a (known Busy refl) h)))

  enter_silent : (lp : ℕ) → IsSilent (enter_answer layout past control lp)
  enter_silent lp = outside_silent lp _ (one_of _ Gp _ (known Gp refl) (one_of _ SsaFault Ok (known SsaFault refl) (known Ok refl)))

  resume_silent : (lp : ℕ) → IsSilent (resume_answer layout past control lp)
  resume_silent lp = outside_silent lp _ (one_of _ Gp _ (known Gp refl) (one_of _ Pending _ (known Pending refl) (one_of _ SsaFault Ok (known SsaFault refl) (known Ok refl))))

  -- ---- Changes

  -- nothing is read of a change that is done where the answer is Ok
  ok_none : (a : Answer) (c : Change) → output_of_change c ≡ None → output_of_change (if_ok a c) ≡ None
  ok_none a c h = ok_holds (λ c. output_of_change c ≡ None) refl a c (λ e. h)

  left_output : (lp : ℕ) (exit : Exit) → output_by exit ≡ output_of_change (if_left exit (Exits lp exit))
  left_output lp Still = refl
  left_output lp exit = refl

  run_shown : (lp : Lp) (n : ℕ) (a : Answer) → shown_by a ≡ output_of_change (change (Run lp n) a)
  run_shown lp n (Answer.Exit exit) = left_output lp.0 exit
  run_shown lp n _ = refl

  abbrev is_run : Move → Bool
  is_run (Run lp n) = true
  is_run _ = false

  -- only a run shows anything
  silent_answer : (m : Move) → is_run m ≡ false → IsSilent (answer layout past control m)
  silent_answer (SetPte p f flags) h = one_of _ Ok NoPage (known Ok refl) (known NoPage refl)
  silent_answer (ReadPte p) h =
      let entry = pte layout past p.0 in
      one_of (nat_lt p.0 (all_pages layout)) (Answer.Pte (record { 0 = entry.frame }) entry.flags) NoPage
      (known (Answer.Pte (record { 0 = entry.frame }) entry.flags) refl) (known NoPage refl)
  silent_answer (Eblock f) h = frame_silent (view_of layout past) f.0 _ (block_silent (view_of layout past) (held layout past f.0) (is_some (blocked_at past f.0)))
  silent_answer Etrack h = one_of _ PrevIncomplete Ok (known PrevIncomplete refl) (known Ok refl)
  silent_answer (Ewb f va i) h = write_out_silent (view_of layout past) f.0 va.0 i
  silent_answer (Eldu f k p va i) h = load_silent (view_of layout past) f.0 k.0 p.0 va.0 i
  silent_answer (Eldb f k p va i) h = load_silent (view_of layout past) f.0 k.0 p.0 va.0 i
  silent_answer (Eremove f) h = frame_silent (view_of layout past) f.0 _ (removed_silent (view_of layout past) (someone_inside layout past) (held layout past f.0))
  silent_answer (Epa f) h = frame_silent (view_of layout past) f.0 _ (one_of _ Ok InUse (known Ok refl) (known InUse refl))
  silent_answer (Discard k) h = one_of _ Ok NoHandle (known Ok refl) (known NoHandle refl)
  silent_answer (Eenter lp v) h = enter_silent lp.0
  silent_answer (Eresume lp) h = resume_silent lp.0
  silent_answer (Run lp n) h = absurd (cc)
  silent_answer (Interrupt lp) h = one_of _ NoLp _ (known NoLp refl) (one_of _ Outside Ok (known Outside refl) (known Ok refl))

  -- an answer shows what is read of its change
  pub answer-shown : (m : Move) → shown_by (answer layout past control m) ≡ output_of_change (change m (answer layout past control m))
  answer-shown (Run lp n) = run_shown lp n (answer layout past control (Run lp n))
  answer-shown (ReadPte p) = (silent_answer (ReadPte p) refl).silent
  answer-shown (Ewb f va i) =
      (silent_answer (Ewb f va i) refl).silent
      ∙ sym (handle_holds (λ c. output_of_change c ≡ None) refl (answer layout past control (Ewb f va i)) _ (λ k e. refl))
  answer-shown (SetPte p f flags) = (silent_answer (SetPte p f flags) refl).silent ∙ sym (ok_none (answer layout past control (SetPte p f flags)) _ refl)
  answer-shown (Eblock f) = (silent_answer (Eblock f) refl).silent ∙ sym (ok_none (answer layout past control (Eblock f)) _ refl)
  answer-shown Etrack = (silent_answer Etrack refl).silent ∙ sym (ok_none (answer layout past control Etrack) _ refl)
  answer-shown (Eldu f k p va i) = (silent_answer (Eldu f k p va i) refl).silent ∙ sym (ok_none (answer layout past control (Eldu f k p va i)) _ refl)
  answer-shown (Eldb f k p va i) = (silent_answer (Eldb f k p va i) refl).silent ∙ sym (ok_none (answer layout past control (Eldb f k p va i)) _ refl)
  answer-shown (Eremove f) = (silent_answer (Eremove f) refl).silent ∙ sym (ok_none (answer layout past control (Eremove f)) _ refl)
  answer-shown (Epa f) = (silent_answer (Epa f) refl).silent ∙ sym (ok_none (answer layout past control (Epa f)) _ refl)
  answer-shown (Discard k) = (silent_answer (Discard k) refl).silent ∙ sym (ok_none (answer layout past control (Discard k)) _ refl)
  answer-shown (Eenter lp v) = (silent_answer (Eenter lp v) refl).silent ∙ sym (ok_none (answer layout past control (Eenter lp v)) _ refl)
  answer-shown (Eresume lp) = (silent_answer (Eresume lp) refl).silent ∙ sym (ok_none (answer layout past control (Eresume lp)) _ refl)
  answer-shown (Interrupt lp) = (silent_answer (Interrupt lp) refl).silent ∙ sym (ok_none (answer layout past control (Interrupt lp)) _ refl)
