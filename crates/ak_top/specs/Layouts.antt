-- The enclave of a run: its layout.
use Rattle.std.specs.Prelude.{ℕ, ◌+◌, Option, unwrap_or}
use Rattle.ak_core.specs.Layout.{Layout}
use Rattle.ak_image.specs.Image.{Image, layout_of}
use Rattle.ak_words.specs.Asked.{RunTexts}

-- how many frames are made: as many as are asked for, or one for each page of the program that may be in, beside the first eight
abbrev pub frames_for : Image → Option ℕ → ℕ
frames_for image frames = unwrap_or frames (8 + image.budget)

-- the layout of the image's enclave, on as many frames and processors as are asked for
abbrev pub layout_for : Image → RunTexts → Layout
layout_for image asked = layout_of image (frames_for image asked.frames) asked.processors
