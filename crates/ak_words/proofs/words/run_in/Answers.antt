use Rattle.std.proofs.Common.{option_map}
use Rattle.clap.specs.Words.{found_of}
use Rattle.ak_words.proofs.Finds.{bad_frames, bad_processors, no_image, no_script, no_signers, run_found}
use Rattle.ak_words.proofs.words.run_in.Goals as goal

pub returns-in_default-clause-run : goal.returns-in_default-clause-run
returns-in_default-clause-run c = no_image (found_of c.args.matches.now) c.in_default.ensures

pub returns-in_default-get_str-clause-run : goal.returns-in_default-get_str-clause-run
returns-in_default-get_str-clause-run c = no_signers (found_of c.args.matches.now) c.in_default-get_str.ensures

pub returns-in_default-get_str-2-clause-run : goal.returns-in_default-get_str-2-clause-run
returns-in_default-get_str-2-clause-run c = no_script (found_of c.args.matches.now) c.in_default-get_str-2.ensures

pub returns-in_default-frames_of-clause-run : goal.returns-in_default-frames_of-clause-run
returns-in_default-frames_of-clause-run c =
    bad_frames (found_of c.args.matches.now) c.in-Some.image.now c.in-Some-get_str.signers.now c.in-Some-get_str-2.script.now (option_map (λ t. t.now) c.get_str-4.result)
    c.in-Some.ensures c.in-Some-get_str.ensures c.in-Some-get_str-2.ensures c.get_str-4.ensures c.in_default-frames_of.ensures.frames

pub returns-in_default-processors_of-clause-run : goal.returns-in_default-processors_of-clause-run
returns-in_default-processors_of-clause-run c =
    bad_processors (found_of c.args.matches.now) c.in-Some.image.now c.in-Some-get_str.signers.now c.in-Some-get_str-2.script.now
    (option_map (λ t. t.now) c.get_str-4.result) (option_map (λ t. t.now) c.get_str-5.result) c.in-Some-frames_of.frames
    c.in-Some.ensures c.in-Some-get_str.ensures c.in-Some-get_str-2.ensures c.get_str-4.ensures c.in-Some-frames_of.ensures.frames c.get_str-5.ensures c.in_default-processors_of.ensures.processors

pub returns-clause-run : goal.returns-clause-run
returns-clause-run c =
    run_found (found_of c.args.matches.now) c.in-Some.image.now c.in-Some-get_str.signers.now c.in-Some-get_str-2.script.now
    (option_map (λ t. t.now) c.get_str-4.result) (option_map (λ t. t.now) c.get_str-5.result) c.in-Some-frames_of.frames c.in-Some-processors_of.processors
    c.in-Some.ensures c.in-Some-get_str.ensures c.in-Some-get_str-2.ensures c.get_str-4.ensures c.in-Some-frames_of.ensures.frames c.get_str-5.ensures c.in-Some-processors_of.ensures.processors
