-- The version of the boundary: the header's SCORVE_VERSION.
use Rattle.std.specs.Prelude.{ℕ}

abbrev pub version : ℕ
version = 5
