-- The worked images, run flat.
use Rattle.std.specs.Prelude.{◌≡◌, ℕ, ◌+◌, ◌-◌, ◌*◌, ◌^◌, List, [], ◌∷◌, ◌++◌, length, replicate, map, Option, Some, None, refl}
use Rattle.ak_core.specs.Layout.{Layout}
use Rattle.ak_core.specs.Mem.{Access, access_to}
use Rattle.ak_core.specs.declared.page.Kind.TheVariants.{Write, Exec}
use Rattle.ak_core.specs.declared.page.Perm.TheVariants.{Rw, Rx}
use Rattle.ak_core.specs.declared.instruction.Instr.TheVariants.{MovImm, Jump}
use Rattle.ak_core.specs.declared.instruction.Decoded.TheVariants.{Whole, NeedMore, Illegal}
use Rattle.ak_model.specs.Flat.Encodings.{decode}
use Rattle.ak_model.specs.Flat.FlatRuns.{End, Next, Call, Vector, FlatRun, line, ending, flat_run, outputs}
use Rattle.ak_model.proofs.Rows.Samples.{layout_of, image_a}

-- a page that begins with these bytes
unfoldable pub filled : List ℕ → List ℕ
filled bytes = bytes ++ replicate (4096 - length bytes) 0

-- what stands out of an instruction's end: its call, or its vector
abbrev pub shown : End → List ℕ
shown (Next flat) = []
shown (Call b a flat) = b ∷ a ∷ []
shown (Vector v) = v ∷ []

abbrev pub shown_at : Layout → Option FlatRun → List ℕ
shown_at layout None = 99 ∷ []
shown_at layout (Some run) = shown (ending layout run.flat)

abbrev accesses_at : Layout → Option FlatRun → List Access
accesses_at layout None = []
accesses_at layout (Some run) = (line layout run.flat).accesses

unfoldable pub code_a : List ℕ
code_a = 72 ∷ 184 ∷ 4 ∷ 0 ∷ 0 ∷ 0 ∷ 0 ∷ 0 ∷ 0 ∷ 0 ∷ 72 ∷ 191 ∷ 1 ∷ 0 ∷ 0 ∷ 0 ∷ 0 ∷ 0 ∷ 0 ∷ 0 ∷ 72 ∷ 190 ∷ 7 ∷ 0 ∷ 0 ∷ 0 ∷ 0 ∷ 0 ∷ 0 ∷ 0 ∷ 15 ∷ 1 ∷ 215 ∷ 72 ∷ 184 ∷ 4 ∷ 0 ∷ 0 ∷ 0 ∷ 0 ∷ 0 ∷ 0 ∷ 0 ∷ 72 ∷ 191 ∷ 0 ∷ 0 ∷ 0 ∷ 0 ∷ 0 ∷ 0 ∷ 0 ∷ 0 ∷ 72 ∷ 190 ∷ 0 ∷ 0 ∷ 0 ∷ 0 ∷ 0 ∷ 0 ∷ 0 ∷ 0 ∷ 15 ∷ 1 ∷ 215 ∷ []

unfoldable pub bytes_a : List ℕ
unfolding filled code_a
bytes_a = filled code_a

first_of_a : decode code_a ≡ Whole (MovImm 0 4) 10
unfolding code_a
first_of_a = refl

jump_back : decode (0xe9 ∷ 0xfb ∷ 0xff ∷ 0xff ∷ 0xff ∷ []) ≡ Whole (Jump (Rattle.std.specs.Prelude.negsuc 4)) 5
jump_back = refl

cut : decode (0x48 ∷ 0x89 ∷ 0x83 ∷ 0xfc ∷ []) ≡ NeedMore
cut = refl

none : decode (0x06 ∷ []) ≡ Illegal
none = refl

-- the first call, after three instructions, and the end
call_a : shown_at image_a (flat_run image_a bytes_a [] 3) ≡ 1 ∷ 7 ∷ []
unfolding bytes_a code_a filled
call_a = refl

end_a : shown_at image_a (flat_run image_a bytes_a (0 ∷ []) 7) ≡ 0 ∷ 0 ∷ []
unfolding bytes_a code_a filled
end_a = refl

outputs_a : outputs image_a bytes_a (0 ∷ []) 8 ≡ 7 ∷ []
unfolding bytes_a code_a filled
outputs_a = refl

-- an addition
code_sum : List ℕ
code_sum = 72 ∷ 191 ∷ 1 ∷ 0 ∷ 0 ∷ 0 ∷ 0 ∷ 0 ∷ 0 ∷ 0 ∷ 72 ∷ 190 ∷ 6 ∷ 0 ∷ 0 ∷ 0 ∷ 0 ∷ 0 ∷ 0 ∷ 0 ∷ 72 ∷ 1 ∷ 254 ∷ 72 ∷ 184 ∷ 4 ∷ 0 ∷ 0 ∷ 0 ∷ 0 ∷ 0 ∷ 0 ∷ 0 ∷ 15 ∷ 1 ∷ 215 ∷ []

outputs_sum : outputs image_a (filled code_sum) [] 5 ≡ 7 ∷ []
unfolding code_sum filled
outputs_sum = refl

-- an instruction that straddles two pages stores over two others
unfoldable pub image_b : Layout
image_b = record (layout_of (Rx ∷ Rx ∷ Rw ∷ Rw ∷ []) (0 ∷ 1 ∷ 2 ∷ 3 ∷ []) 4 4 12 1) { entry = 4092 }

unfoldable pub bytes_b : List ℕ
bytes_b = (replicate 4092 0 ++ 72 ∷ 137 ∷ 131 ∷ 252 ∷ []) ++ ((47 ∷ 0 ∷ 16 ∷ 72 ∷ 184 ∷ 4 ∷ 0 ∷ 0 ∷ 0 ∷ 0 ∷ 0 ∷ 0 ∷ 0 ∷ 15 ∷ 1 ∷ 215 ∷ []) ++ replicate (4096 * 3 - 16) 0)

straddles : accesses_at image_b (flat_run image_b bytes_b [] 0) ≡ access_to 0 Exec ∷ access_to 1 Exec ∷ access_to 2 Write ∷ access_to 3 Write ∷ []
unfolding image_b bytes_b
straddles = refl

end_b : shown_at image_b (flat_run image_b bytes_b [] 2) ≡ 0 ∷ 0 ∷ []
unfolding image_b bytes_b
end_b = refl

-- what is stored over two pages is loaded
unfoldable pub image_f : Layout
image_f = layout_of (Rx ∷ Rw ∷ Rw ∷ []) (0 ∷ 1 ∷ 2 ∷ []) 3 3 11 1

unfoldable pub bytes_f : List ℕ
bytes_f = (72 ∷ 184 ∷ 255 ∷ 255 ∷ 255 ∷ 255 ∷ 255 ∷ 255 ∷ 255 ∷ 255 ∷ 72 ∷ 137 ∷ 131 ∷ 252 ∷ 31 ∷ 0 ∷ 16 ∷ 72 ∷ 139 ∷ 179 ∷ 248 ∷ 31 ∷ 0 ∷ 16 ∷ 72 ∷ 191 ∷ 1 ∷ 0 ∷ 0 ∷ 0 ∷ 0 ∷ 0 ∷ 0 ∷ 0 ∷ 72 ∷ 184 ∷ 4 ∷ 0 ∷ 0 ∷ 0 ∷ 0 ∷ 0 ∷ 0 ∷ 0 ∷ 15 ∷ 1 ∷ 215 ∷ 72 ∷ 184 ∷ 4 ∷ 0 ∷ 0 ∷ 0 ∷ 0 ∷ 0 ∷ 0 ∷ 0 ∷ 72 ∷ 191 ∷ 0 ∷ 0 ∷ 0 ∷ 0 ∷ 0 ∷ 0 ∷ 0 ∷ 0 ∷ 72 ∷ 190 ∷ 0 ∷ 0 ∷ 0 ∷ 0 ∷ 0 ∷ 0 ∷ 0 ∷ 0 ∷ 15 ∷ 1 ∷ 215 ∷ []) ++ replicate (4096 * 3 - 80) 0

outputs_f : outputs image_f bytes_f (0 ∷ []) 10 ≡ 18446744069414584320 ∷ []
unfolding image_f bytes_f
outputs_f = refl

-- a store into a page that is not writable, and a division by zero
bytes_g : List ℕ
bytes_g = 72 ∷ 137 ∷ 131 ∷ 0 ∷ 1 ∷ 0 ∷ 16 ∷ []

forbidden : shown_at image_a (flat_run image_a (filled bytes_g) [] 0) ≡ 14 ∷ []
unfolding bytes_g filled
forbidden = refl

bytes_i : List ℕ
bytes_i = 72 ∷ 247 ∷ 241 ∷ []

by_zero : shown_at image_a (flat_run image_a (filled bytes_i) [] 0) ≡ 0 ∷ []
unfolding bytes_i filled
by_zero = refl

-- a program that puts out what its call returned, and then ends
code_h : List ℕ
code_h = 72 ∷ 184 ∷ 4 ∷ 0 ∷ 0 ∷ 0 ∷ 0 ∷ 0 ∷ 0 ∷ 0 ∷ 72 ∷ 191 ∷ 2 ∷ 0 ∷ 0 ∷ 0 ∷ 0 ∷ 0 ∷ 0 ∷ 0 ∷ 15 ∷ 1 ∷ 215 ∷ 72 ∷ 137 ∷ 198 ∷ 72 ∷ 184 ∷ 4 ∷ 0 ∷ 0 ∷ 0 ∷ 0 ∷ 0 ∷ 0 ∷ 0 ∷ 72 ∷ 191 ∷ 1 ∷ 0 ∷ 0 ∷ 0 ∷ 0 ∷ 0 ∷ 0 ∷ 0 ∷ 15 ∷ 1 ∷ 215 ∷ 72 ∷ 184 ∷ 4 ∷ 0 ∷ 0 ∷ 0 ∷ 0 ∷ 0 ∷ 0 ∷ 0 ∷ 72 ∷ 191 ∷ 0 ∷ 0 ∷ 0 ∷ 0 ∷ 0 ∷ 0 ∷ 0 ∷ 0 ∷ 15 ∷ 1 ∷ 215 ∷ []

-- the answer of the call is what comes back in RAX
outputs_h : outputs image_a (filled code_h) (9 ∷ 0 ∷ []) 10 ≡ 9 ∷ []
unfolding code_h filled
outputs_h = refl
