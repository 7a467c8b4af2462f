-- One word of clap's walk, by what the word looks like, for any command with files and options.
use Rattle.std.proofs.Common.{◌≡◌, ℕ, ◌&&◌, suc, Bool, true, false, List, [], ◌∷◌, Option, Some, None, length, refl}
use Rattle.std.specs.Prelude.{slice_get}
use Rattle.std.specs.Str.{bytes_eq, chars}
use Rattle.clap.specs.Words.{Kinds, Rule, Shape, Text}
use Rattle.clap.specs.Lexer.{long_of, short_of}
use Rattle.clap.specs.Walk.{Held, Row, Waiting, Walk, arg_by_id, arg_by_index, arg_by_long, arg_by_short, idle, option, next_position, settled, used, walked}
use Rattle.clap.specs.Kinds.{or_else}
use Rattle.clap.specs.Faults.{flags_fault, react_fault, settle_fault, turn_fault}
use Rattle.clap.specs.declared.error.ErrorKind.TheVariants.{UnknownArgument}
use Rattle.ak_words.proofs.Built.{file_at, option_of, shape}
use Rattle.ak_words.proofs.Looks.{IsPlain}
use Rattle.ak_words.proofs.Outcome.{HasFault, first_fault}

abbrev pub Pending : Type 0
Pending = Option (Text × List Text)

abbrev pub held : List Row → Pending → Held
held rows pending = record { rows = rows; pending = pending; skip = 0 }

abbrev pub at : List Row → Pending → Waiting → ℕ → Bool → Walk
at rows pending waiting position ended = record {
  held = held rows pending;
  waiting = waiting;
  position = position;
  is_trailing = ended;
  stopped = None;
}

and-false : (b : Bool) → (b && false) ≡ false
and-false true = refl
and-false false = refl

or_else-nil : (a : Kinds) → or_else a [] ≡ a
or_else-nil [] = refl
or_else-nil (k ∷ ks) = refl

module _ (name : Text) (rules : List Rule) where
  abbrev s : Shape
  s = shape name rules

  -- what the pending option or file comes to
  abbrev pub settled_at : List Row → Pending → List Row
  settled_at rows pending = (settled rules (held rows pending)).rows

  abbrev pub settle_fault_at : List Row → Pending → Kinds
  settle_fault_at rows pending = settle_fault rules false (held rows pending)

  module _ (rows : List Row) (pending : Pending) (position : ℕ) where
    -- a word after `--` is the next file
    pub trailing_file : (waiting : Waiting) (id : Text) (i : ℕ) (w : Text) → arg_by_index rules position ≡ Some (file_at id i)
        → (turn_fault s [] (at rows pending waiting position true) w ≡ settle_fault_at rows pending)
        × (walked rules [] (at rows pending waiting position true) w ≡ at (settled_at rows pending) (Some (id, w ∷ [])) idle (next_position (file_at id i) position) true)
    unfolding walked
    trailing_file waiting id i w e = (rw (e, and-false) refl, rw (e, and-false) refl)

    -- so is a word that is no option
    pub plain_file : (id : Text) (i : ℕ) (w : Text) → arg_by_index rules position ≡ Some (file_at id i) → IsPlain w
        → (turn_fault s [] (at rows pending idle position false) w ≡ settle_fault_at rows pending)
        × (walked rules [] (at rows pending idle position false) w ≡ at (settled_at rows pending) (Some (id, w ∷ [])) idle (next_position (file_at id i) position) false)
    unfolding walked
    plain_file id i w e p = (rw (p.dashes, p.long, p.short, e, and-false) refl, rw (p.dashes, p.long, p.short, e, and-false) refl)

    -- where no file is left
    pub trailing_stray : (waiting : Waiting) (w : Text) → arg_by_index rules position ≡ None
        → turn_fault s [] (at rows pending waiting position true) w ≡ UnknownArgument ∷ []
    unfolding walked
    trailing_stray waiting w e = rw e refl

    pub plain_stray : (w : Text) → arg_by_index rules position ≡ None → IsPlain w
        → turn_fault s [] (at rows pending idle position false) w ≡ UnknownArgument ∷ []
    unfolding walked
    plain_stray w e p = rw (p.dashes, p.long, p.short, e) refl

    -- `--`
    pub dashes_idle : (w : Text) → bytes_eq w (45 ∷ 45 ∷ []) ≡ true
        → (turn_fault s [] (at rows pending idle position false) w ≡ []) × (walked rules [] (at rows pending idle position false) w ≡ at rows pending idle position true)
    unfolding walked
    dashes_idle w e = (rw e refl, rw e refl)

    pub dashes_waiting : (id w : Text) → bytes_eq w (45 ∷ 45 ∷ []) ≡ true
        → (turn_fault s [] (at rows pending (option id) position false) w ≡ []) × (walked rules [] (at rows pending (option id) position false) w ≡ at rows pending (option id) position true)
    unfolding walked
    dashes_waiting id w e = (rw e refl, rw e refl)

    -- `--name=value` of an option
    pub attached : (w key v id : Text) → bytes_eq w (45 ∷ 45 ∷ []) ≡ false → long_of w ≡ Some (key, Some v) → arg_by_long rules key ≡ Some (option_of id)
        → (turn_fault s [] (at rows pending idle position false) w ≡ react_fault rules false (option_of id) (v ∷ []) (held rows pending))
        × (walked rules [] (at rows pending idle position false) w ≡ at (used (option_of id) (v ∷ []) (settled_at rows pending)) None idle position false)
    unfolding walked
    attached w key v id d l a = (rw (d, l, a) (or_else-nil _), rw (d, l, a) refl)

    -- `--name` of an option
    pub opened : (w key id : Text) → bytes_eq w (45 ∷ 45 ∷ []) ≡ false → long_of w ≡ Some (key, None) → arg_by_long rules key ≡ Some (option_of id)
        → (turn_fault s [] (at rows pending idle position false) w ≡ settle_fault_at rows pending)
        × (walked rules [] (at rows pending idle position false) w ≡ at (settled_at rows pending) (Some (id, [])) (option id) position false)
    unfolding walked
    opened w key id d l a = (rw (d, l, a) (or_else-nil _), rw (d, l, a) refl)

    -- another `--name`, whatever waits
    pub unknown_idle : (w key : Text) (v : Option Text) → bytes_eq w (45 ∷ 45 ∷ []) ≡ false → long_of w ≡ Some (key, v) → arg_by_long rules key ≡ None
        → HasFault (turn_fault s [] (at rows pending idle position false) w)
    unfolding walked
    unknown_idle w key v d l a = rw (d, l, a) (UnknownArgument, [], refl)

    pub unknown_waiting : (id w key : Text) (v : Option Text) → bytes_eq w (45 ∷ 45 ∷ []) ≡ false → long_of w ≡ Some (key, v) → arg_by_long rules key ≡ None
        → HasFault (turn_fault s [] (at rows pending (option id) position false) w)
    unfolding walked
    unknown_waiting id w key v d l a = rw (d, l, a) (UnknownArgument, [], refl)

    -- an option, where what is pending has a fault
    pub option_idle : (w key id : Text) (v : Option Text) → bytes_eq w (45 ∷ 45 ∷ []) ≡ false → long_of w ≡ Some (key, v) → arg_by_long rules key ≡ Some (option_of id)
        → HasFault (settle_fault_at rows pending) → HasFault (turn_fault s [] (at rows pending idle position false) w)
    unfolding walked
    option_idle w key id None d l a h = rw (d, l, a) (first_fault _ _ h)
    option_idle w key id (Some v) d l a h = rw (d, l, a) (first_fault _ _ (first_fault _ _ h))

    pub option_waiting : (other w key id : Text) (v : Option Text) → bytes_eq w (45 ∷ 45 ∷ []) ≡ false → long_of w ≡ Some (key, v) → arg_by_long rules key ≡ Some (option_of id)
        → HasFault (settle_fault_at rows pending) → HasFault (turn_fault s [] (at rows pending (option other) position false) w)
    unfolding walked
    option_waiting other w key id None d l a h = rw (d, l, a) (first_fault _ _ h)
    option_waiting other w key id (Some v) d l a h = rw (d, l, a) (first_fault _ _ (first_fault _ _ h))

    -- `-x..`
    pub short_idle : (w flags : Text) (k c : ℕ) → bytes_eq w (45 ∷ 45 ∷ []) ≡ false → long_of w ≡ None → short_of w ≡ Some flags → length flags ≡ suc k → slice_get (chars flags) 0 ≡ Some c → arg_by_short rules c ≡ None
        → HasFault (turn_fault s [] (at rows pending idle position false) w)
    unfolding walked flags_fault
    short_idle w flags k c d l f n first a = rw (d, l, f) (rw (n, first, a) (UnknownArgument, [], refl))

    pub short_waiting : (id w flags : Text) (k c : ℕ) → bytes_eq w (45 ∷ 45 ∷ []) ≡ false → long_of w ≡ None → short_of w ≡ Some flags → length flags ≡ suc k → slice_get (chars flags) 0 ≡ Some c → arg_by_short rules c ≡ None
        → HasFault (turn_fault s [] (at rows pending (option id) position false) w)
    unfolding walked flags_fault
    short_waiting id w flags k c d l f n first a = rw (d, l, f) (rw (n, first, a) (UnknownArgument, [], refl))

  -- the text that an option waits for
  pub filled_in : (rows : List Row) (position : ℕ) (id w : Text) → arg_by_id rules id ≡ Some (option_of id) → bytes_eq id id ≡ true → IsPlain w
      → (turn_fault s [] (at rows (Some (id, [])) (option id) position false) w ≡ [])
      × (walked rules [] (at rows (Some (id, [])) (option id) position false) w ≡ at rows (Some (id, w ∷ [])) idle position false)
  unfolding walked
  filled_in rows position id w a same p = (rw (p.dashes, p.long, p.short) refl, rw (p.dashes, p.long, p.short, a, same) refl)
