-- What is read from a frame, field by field.
use Rattle.std.proofs.Common.{◌≡◌, ◌≢◌, ℕ, ◌%◌, List, take, drop, refl, ap, sym, ◌∙◌}
use Rattle.std.proofs.lemmas.Bool.{ne_eqb}
use Rattle.std.proofs.lemmas.List.{drop-drop, get_or-drop}
use Rattle.std.specs.Prelude.{Bool, slice_index, ◌==◌, if◌then◌else◌}
use Rattle.ak_core.specs.declared.registers.Mode.{Mode}
use Rattle.ak_core.specs.declared.registers.Regs.{Regs}
use Rattle.ak_model.specs.Flat.Instructions.{le_value, number_at}
use Rattle.ak_ssa.specs.declared.cause.Why.TheVariants.{Interrupt, Vector, PageFault}
use Rattle.ak_ssa.specs.SavedRegisters.{words_in, after_words, flag_in, mode_in, regs_by, regs_in}
use Rattle.ak_ssa.specs.ReadFrames.{kind_in, why_by, why_in}
use Rattle.ak_ssa.proofs.Words.{words_in-take, after_words-drop, byte}

-- ---- Registers

abbrev made : List ℕ → ℕ → Bool → Bool → Bool → Bool → Mode → Regs
made gpr rip cf zf sf of mode = record { gpr = gpr; rip = rip; cf = cf; zf = zf; sf = sf; of = of; mode = mode }

module _ (frame gpr : List ℕ) (flags rip : ℕ) (cf zf sf of : Bool) (mode : Mode) (is_gpr : gpr ≡ words_in 16 (take 128 (drop 16 frame))) (is_flags : flags ≡ number_at frame 144 8)
    (is_rip : rip ≡ number_at frame 152 8) (is_cf : cf ≡ flag_in flags 1) (is_zf : zf ≡ flag_in flags 64) (is_sf : sf ≡ flag_in flags 128) (is_of : of ≡ flag_in flags 2048)
    (is_mode : mode ≡ mode_in (slice_index frame 180)) where
  gpr_read : gpr ≡ words_in 16 (drop 16 frame)
  gpr_read = is_gpr ∙ words_in-take 16 (drop 16 frame)

  tail_read : after_words 16 (drop 16 frame) ≡ drop 144 frame
  tail_read = after_words-drop 16 (drop 16 frame) ∙ drop-drop 128 16 frame

  rip_read : rip ≡ le_value (take 8 (drop 8 (drop 144 frame)))
  rip_read = is_rip ∙ ap (λ l. le_value (take 8 l)) (sym (drop-drop 8 144 frame))

  mode_read : mode ≡ mode_in (le_value (take 1 (drop 36 (drop 144 frame))))
  mode_read =
      is_mode
      ∙ ap mode_in (sym (get_or-drop 180 frame 0 0) ∙ sym (byte (drop 180 frame)) ∙ ap (λ l. le_value (take 1 l)) (sym (drop-drop 36 144 frame)))

  flag_read : (flag : Bool) (weight : ℕ) → flag ≡ flag_in flags weight → flag ≡ flag_in (le_value (take 8 (drop 144 frame))) weight
  flag_read flag weight is = is ∙ ap (λ n. flag_in n weight) is_flags

  pub regs_read : made gpr rip cf zf sf of mode ≡ regs_in frame
  regs_read =
      ap (λ x. made x rip cf zf sf of mode) gpr_read
      ∙ ap (λ x. made (words_in 16 (drop 16 frame)) x cf zf sf of mode) rip_read
      ∙ ap (λ x. made (words_in 16 (drop 16 frame)) (le_value (take 8 (drop 8 (drop 144 frame)))) x zf sf of mode) (flag_read cf 1 is_cf)
      ∙ ap (λ x. made (words_in 16 (drop 16 frame)) (le_value (take 8 (drop 8 (drop 144 frame)))) (flag_in (le_value (take 8 (drop 144 frame))) 1) x sf of mode) (flag_read zf 64 is_zf)
      ∙ ap (λ x. made (words_in 16 (drop 16 frame)) (le_value (take 8 (drop 8 (drop 144 frame)))) (flag_in (le_value (take 8 (drop 144 frame))) 1) (flag_in (le_value (take 8 (drop 144 frame))) 64) x of mode) (flag_read sf 128 is_sf)
      ∙ ap (λ x. record (regs_by (words_in 16 (drop 16 frame)) (drop 144 frame)) { of = x; mode = mode }) (flag_read of 2048 is_of)
      ∙ ap (λ x. record (regs_by (words_in 16 (drop 16 frame)) (drop 144 frame)) { mode = x }) mode_read
      ∙ ap (regs_by (words_in 16 (drop 16 frame))) (sym tail_read)

-- ---- What is noted

module _ (frame : List ℕ) (info code : ℕ) (is_info : info ≡ number_at frame 176 4) (is_code : code ≡ number_at frame 8 4) where
  by_numbers : (address : ℕ) → address ≡ number_at frame 0 8 → why_by info code address ≡ why_in frame
  by_numbers address is_address =
      ap (λ n. why_by n code address) is_info ∙ ap (λ n. why_by (number_at frame 176 4) n address) is_code
      ∙ ap (why_by (number_at frame 176 4) (number_at frame 8 4)) is_address

  pub nothing_read : info ≡ 0 → Interrupt ≡ why_in frame
  nothing_read none = ap (λ n. why_by n code (number_at frame 0 8)) (sym none) ∙ by_numbers (number_at frame 0 8) refl

  pub vector_read : info ≢ 0 → code ≡ 0 → Vector (info % 256) ≡ why_in frame
  vector_read some none =
      ap (λ b. if b then Interrupt else Vector (info % 256)) (sym (ne_eqb info 0 some))
      ∙ ap (λ n. why_by info n (number_at frame 0 8)) (sym none) ∙ by_numbers (number_at frame 0 8) refl

  pub fault_read : (address : ℕ) → address ≡ number_at frame 0 8 → info ≢ 0 → code ≢ 0 → PageFault address (kind_in code) ≡ why_in frame
  fault_read address is_address some known =
      ap (λ b. if b then Vector (info % 256) else PageFault address (kind_in code)) (sym (ne_eqb code 0 known))
      ∙ ap (λ b. if b then Interrupt else (if code == 0 then Vector (info % 256) else PageFault address (kind_in code))) (sym (ne_eqb info 0 some))
      ∙ by_numbers address is_address
