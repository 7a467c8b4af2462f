-- Layouts and moves of the worked rows, written short.
use Rattle.std.specs.Prelude.{ℕ, true, false, List, [], ◌∷◌, replicate}
use Rattle.ak_core.specs.Layout.{Layout}
use Rattle.ak_core.specs.declared.page.Flags.{Flags}
use Rattle.ak_core.specs.declared.page.Perm.{Perm}
use Rattle.ak_core.specs.declared.page.Perm.TheVariants.{R, Rw, Rx}
use Rattle.ak_core.specs.declared.moves.Move.{Move}
use Rattle.ak_core.specs.declared.moves.Move.TheVariants.{SetPte, ReadPte, Eblock, Ewb, Eldu, Eremove, Epa, Discard, Eenter, Eresume, Run, Interrupt}
use Rattle.ak_core.specs.declared.moves.Answer.{Answer}
use Rattle.ak_core.specs.declared.moves.Answer.TheVariants.{OkHandle}
use Rattle.ak_core.specs.declared.moves.Exit.{Exit}
use Rattle.ak_core.specs.declared.page.Page.{Page}
use Rattle.ak_core.specs.declared.page.Frame.{Frame}
use Rattle.ak_core.specs.declared.page.Handle.{Handle}
use Rattle.ak_core.specs.declared.page.Lp.{Lp}

abbrev pub layout_of : List Perm → List ℕ → ℕ → ℕ → ℕ → ℕ → Layout
layout_of perms cluster_of clusters budget frames lps =
    record { base = 268435456; entry = 0; perms = perms; cluster_of = cluster_of; clusters = clusters; budget = budget; frames = frames; lps = lps }

abbrev pub image_a : Layout
image_a = layout_of (Rx ∷ []) (0 ∷ []) 1 1 9 1

-- a table of 16 pages in two clusters
abbrev pub image_c : Layout
image_c = layout_of (Rx ∷ replicate 15 R) (0 ∷ 0 ∷ 0 ∷ 0 ∷ 0 ∷ 0 ∷ 0 ∷ 0 ∷ replicate 8 1) 2 16 24 1

abbrev pub image_d : Layout
image_d = layout_of (Rx ∷ Rw ∷ []) (0 ∷ 0 ∷ []) 1 2 10 1

abbrev pub image_j : Layout
image_j = layout_of (replicate 5 Rx) (0 ∷ 1 ∷ 2 ∷ 3 ∷ 4 ∷ []) 5 4 12 1

abbrev pub page : ℕ → Page
page n = record { 0 = n }

abbrev pub frame : ℕ → Frame
frame n = record { 0 = n }

abbrev pub key : ℕ → Handle
key n = record { 0 = n }

abbrev pub lp : ℕ → Lp
lp n = record { 0 = n }

abbrev pub none : Flags
none = record { p = false; w = false; x = false; a = false; d = false }

abbrev pub pad : Flags
pad = record { p = true; w = false; x = false; a = true; d = true }

abbrev pub pwad : Flags
pwad = record { p = true; w = true; x = false; a = true; d = true }

abbrev pub pxad : Flags
pxad = record { p = true; w = false; x = true; a = true; d = true }

abbrev pub pxd : Flags
pxd = record { p = true; w = false; x = true; a = false; d = true }

abbrev pub setpte : ℕ → ℕ → Flags → Move
setpte p f flags = SetPte (page p) (frame f) flags

abbrev pub readpte : ℕ → Move
readpte p = ReadPte (page p)

abbrev pub eblock : ℕ → Move
eblock f = Eblock (frame f)

abbrev pub ewb : ℕ → ℕ → ℕ → Move
ewb f va i = Ewb (frame f) (frame va) i

abbrev pub eldu : ℕ → ℕ → ℕ → ℕ → ℕ → Move
eldu f k p va i = Eldu (frame f) (key k) (page p) (frame va) i

abbrev pub eremove : ℕ → Move
eremove f = Eremove (frame f)

abbrev pub epa : ℕ → Move
epa f = Epa (frame f)

abbrev pub discard : ℕ → Move
discard k = Discard (key k)

abbrev pub eenter : ℕ → ℕ → Move
eenter q v = Eenter (lp q) v

abbrev pub eresume : ℕ → Move
eresume q = Eresume (lp q)

abbrev pub run : ℕ → ℕ → Move
run q n = Run (lp q) n

abbrev pub interrupt : ℕ → Move
interrupt q = Interrupt (lp q)

abbrev pub ex : Exit → Answer
ex exit = Answer.Exit exit

abbrev pub pf : Answer
pf = ex (Exit.Pf 268435456 4)

abbrev pub sealed : ℕ → Answer
sealed k = OkHandle (key k)
