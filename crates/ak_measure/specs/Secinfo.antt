-- What the SECINFO of a page says. (SDM volume 3D, "SECINFO".)
use Rattle.std.specs.Prelude.{ℕ, ◌+◌, ◌*◌}
use Rattle.ak_core.specs.declared.page.Perm.{Perm}
use Rattle.ak_core.specs.declared.page.Perm.TheVariants.{R, Rw, Rx}
use Rattle.ak_core.specs.declared.page.PageType.{PageType}
use Rattle.ak_core.specs.declared.page.PageType.TheVariants.{Secs, Tcs, Reg, Va}

-- the flags of a regular page, whose type is 2: 1 for reading, 2 for writing, 4 for executing
abbrev pub regular : Perm → ℕ
regular R = 256 * 2 + 1
regular Rw = 256 * 2 + 3
regular Rx = 256 * 2 + 5

-- the flags of a page of the enclave: a TCS has the type 1 and no permission. No other type is added
abbrev pub secinfo : PageType → Perm → ℕ
secinfo Reg perm = regular perm
secinfo Tcs perm = 256 * 1
secinfo Secs perm = 0
secinfo Va perm = 0
