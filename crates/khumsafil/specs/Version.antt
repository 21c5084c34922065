-- The library's own version, 0.5.0: 65,536 for each major version, 256 for each minor one, 1 for each change that adds nothing.
use Rattle.std.specs.Prelude.{ℕ, ◌+◌, ◌*◌}

abbrev pub library_version : ℕ
library_version = 65536 * 0 + 256 * 5 + 0
