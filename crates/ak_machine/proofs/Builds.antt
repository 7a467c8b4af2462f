-- The machine of a build: its processors, and that it stands for the empty history.
use Rattle.std.proofs.Common.{◌≡◌, ℕ, false, List, [], refl, ap, sym, ◌∙◌, subst}
use Rattle.std.specs.Prelude.{Option, Some, None, slice_get}
use Rattle.ak_core.specs.Layout.{Layout, IsValid}
use Rattle.ak_model.specs.Control.ControlState.{control_at_build}
use Rattle.ak_model.specs.Flat.FlatRuns.{zeroed}
use Rattle.ak_relation.proofs.Runs.BuiltStands.{built_stands}
use Rattle.ak_relation.specs.State.MachineState.{Processor, State}
use Rattle.ak_build.specs.Built.{AreOutside, BuiltAs}
use Rattle.ak_build.specs.declared.building.Built.{Built}
use Rattle.ak_image.specs.Image.{Image, layout_of}
use Rattle.ak_enclu.proofs.Changes.{nothing_cached}
use Rattle.ak_enclu.specs.Machines.{IsProcessor}
use Rattle.ak_tlb.specs.Fills.{HoldsFills}
use Rattle.ak_tlb.specs.declared.translation.Translation.{Translation}
use Rattle.ak_encls.specs.Enclave.{Enclave}
use Rattle.ak_pte.specs.declared.table.Pte.{Pte}
use Rattle.ak_enclu.specs.declared.cpu.Cpu.{Cpu}
use Rattle.ak_machine.specs.Machines.{AreNew, AreProcessors, IsJustBuilt, IsSound, IsState, Parts}

-- a processor that is outside, with these registers and frames
abbrev outside_as : Option Cpu → Processor
outside_as None = record { inside = false; regs = zeroed 0; tcs = 0; ssa = 0; fills = [] }
outside_as (Some cpu) = record { inside = false; regs = cpu.regs; tcs = cpu.tcs.0; ssa = cpu.ssa.0; fills = [] }

is_outside : (o : Option Cpu) → (outside_as o).inside ≡ false
is_outside None = refl
is_outside (Some cpu) = refl

is_flushed : (o : Option Cpu) → (outside_as o).fills ≡ []
is_flushed None = refl
is_flushed (Some cpu) = refl

module _ (cpus : List Cpu) where
  abbrev pub new_processors : ℕ → Processor
  new_processors lp = outside_as (slice_get cpus lp)

  pub all_outside : AreOutside new_processors
  all_outside = record { outside = λ lp. is_outside (slice_get cpus lp); flushed = λ lp. is_flushed (slice_get cpus lp) }

  module _ (lps : ℕ) (new : AreNew lps cpus) where
    is_new : (cpu : Cpu) → cpu.inside ≡ false → cpu.tlb ≡ [] → IsProcessor cpu (outside_as (Some cpu))
    is_new cpu out none = record {
      inside = sym out;
      regs = refl;
      tcs = refl;
      ssa = refl;
      fills = subst (λ (cached : List Translation). HoldsFills cached []) (sym none) nothing_cached;
    }

    pub are_processors : (state : State) → state.processors ≡ new_processors → AreProcessors cpus state
    are_processors state is = record {
      each = λ lp cpu at.
          let n = new.each lp cpu at in
          (n.0, subst (IsProcessor cpu) (sym (ap (λ (p : ℕ → Processor). p lp) is ∙ ap outside_as at)) (is_new cpu n.1 n.2));
      no_more = λ lp many. ap (λ (p : ℕ → Processor). (p lp).inside) is ∙ is_outside (slice_get cpus lp);
    }

module _ (image : Image) (frames lps : ℕ) (b : Built) (cpus : List Cpu) (new : AreNew lps cpus)
    (m : BuiltAs (layout_of image frames lps) image.bytes b (new_processors cpus)) where
  abbrev parts : Parts
  parts = record { layout = layout_of image frames lps; encls = b.encls; table = b.table; cpus = cpus }

  is_state : IsState parts m.state
  is_state = record { paging = m.paging; mapped = m.mapped; processors = are_processors cpus lps new m.state m.processors_are }

  pub just_built : IsJustBuilt image.bytes parts
  just_built = record { state = m.state; machine = is_state; built = m.built }

  pub sound_built : IsValid (layout_of image frames lps) → IsSound parts
  sound_built valid = record {
    each = new.count;
    sized = m.sized;
    somewhere = record {
      image = image.bytes;
      past = [];
      control = control_at_build [];
      turns = [];
      state = m.state;
      machine = is_state;
      stands = built_stands (layout_of image frames lps) image.bytes m.state valid m.built;
    };
  }

  -- with the parts as they stand in the machine
  module _ (layout : Layout) (encls : Enclave) (table : List Pte) (same_layout : layout ≡ layout_of image frames lps) (same_encls : encls ≡ b.encls) (same_table : table ≡ b.table) where
    moved : (P : Parts → Type 0) → P parts → P (record { layout = layout; encls = encls; table = table; cpus = cpus })
    moved P here =
        subst (λ (l : Layout). P (record { layout = l; encls = encls; table = table; cpus = cpus })) (sym same_layout)
        (subst (λ (e : Enclave). P (record parts { encls = e; table = table })) (sym same_encls)
        (subst (λ (t : List Pte). P (record parts { table = t })) (sym same_table) here))

    pub sound_here : IsValid layout → IsSound (record { layout = layout; encls = encls; table = table; cpus = cpus })
    sound_here valid = moved IsSound (sound_built (subst IsValid same_layout valid))

    pub built_here : IsJustBuilt image.bytes (record { layout = layout; encls = encls; table = table; cpus = cpus })
    built_here = moved (IsJustBuilt image.bytes) just_built
