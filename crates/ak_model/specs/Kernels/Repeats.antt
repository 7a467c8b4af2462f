-- A move that was just refused is not made again.
use Rattle.std.specs.Prelude.{Bool, true, false, ◌&&◌, not, [], ◌∷◌, Option, Some, None, ◌==◌, if◌then◌else◌}
use Rattle.std.specs.Bool.{beq}
use Rattle.ak_core.specs.declared.page.Flags.{Flags}
use Rattle.ak_core.specs.declared.moves.Move.{Move}
use Rattle.ak_core.specs.declared.moves.Move.TheVariants.{SetPte, ReadPte, Eblock, Etrack, Ewb, Eldu, Eldb, Eremove, Epa, Discard, Eenter, Eresume, Run, Interrupt}
use Rattle.ak_core.specs.declared.moves.Answer.{Answer}
use Rattle.ak_core.specs.declared.moves.Answer.TheVariants.{Ok, OkHandle}
use Rattle.ak_model.specs.Paging.Histories.{History}

-- equal flags
abbrev pub same_flags : Flags → Flags → Bool
same_flags e f = beq e.p f.p && (beq e.w f.w && (beq e.x f.x && (beq e.a f.a && beq e.d f.d)))

-- equal moves
abbrev pub same_move : Move → Move → Bool
same_move (SetPte p f e) (SetPte p' f' e') = (p.0 == p'.0) && ((f.0 == f'.0) && same_flags e e')
same_move (ReadPte p) (ReadPte p') = p.0 == p'.0
same_move (Eblock f) (Eblock f') = f.0 == f'.0
same_move Etrack Etrack = true
same_move (Ewb f va i) (Ewb f' va' i') = (f.0 == f'.0) && ((va.0 == va'.0) && (i == i'))
same_move (Eldu f k p va i) (Eldu f' k' p' va' i') =
    (f.0 == f'.0) && ((k.0 == k'.0) && ((p.0 == p'.0) && ((va.0 == va'.0) && (i == i'))))
same_move (Eldb f k p va i) (Eldb f' k' p' va' i') =
    (f.0 == f'.0) && ((k.0 == k'.0) && ((p.0 == p'.0) && ((va.0 == va'.0) && (i == i'))))
same_move (Eremove f) (Eremove f') = f.0 == f'.0
same_move (Epa f) (Epa f') = f.0 == f'.0
same_move (Discard k) (Discard k') = k.0 == k'.0
same_move (Eenter lp v) (Eenter lp' v') = (lp.0 == lp'.0) && (v == v')
same_move (Eresume lp) (Eresume lp') = lp.0 == lp'.0
same_move (Run lp n) (Run lp' n') = (lp.0 == lp'.0) && (n == n')
same_move (Interrupt lp) (Interrupt lp') = lp.0 == lp'.0
same_move _ _ = false

-- the answer is Ok, a handle or an exit: the move was done
abbrev pub is_done : Answer → Bool
is_done Ok = true
is_done (OkHandle k) = true
is_done (Answer.Exit exit) = true
is_done _ = false

-- this very move was refused just now
abbrev pub was_refused : History → Move → Bool
was_refused [] m = false
was_refused (pair ∷ past) m = same_move pair.0 m && not (is_done pair.1)

-- the move, unless it was refused just now
abbrev pub unless_refused : History → Option Move → Option Move
unless_refused past None = None
unless_refused past (Some m) = if was_refused past m then None else Some m
