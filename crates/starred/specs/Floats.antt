-- The readings of the examples, by their bit patterns.
use Rattle.std.specs.Prelude.{Float}
use Rattle.std.specs.Float.{binary64}
use Rattle.std.specs.Float.Ieee.{of_bits}

abbrev pub −0 : Float
−0 = of_bits binary64 0x8000_0000_0000_0000

abbrev pub 0·0 : Float
0·0 = of_bits binary64 0

abbrev pub 0·5 : Float
0·5 = of_bits binary64 0x3fe0_0000_0000_0000

abbrev pub 1·0 : Float
1·0 = of_bits binary64 0x3ff0_0000_0000_0000

abbrev pub 2·0 : Float
2·0 = of_bits binary64 0x4000_0000_0000_0000

abbrev pub 3·0 : Float
3·0 = of_bits binary64 0x4008_0000_0000_0000
