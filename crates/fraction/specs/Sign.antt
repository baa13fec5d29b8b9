-- An integer by its sign, with its size.
use Rattle.std.specs.Prelude.{zero, suc, ℤ, pos, negsuc}
use Rattle.fraction.specs.declared.Sign.{Sign}
use Rattle.fraction.specs.declared.Sign.TheVariants.{Minus, Zero, Plus}

abbrev pub sign_of : ℤ → Sign
sign_of (pos zero) = Zero
sign_of (pos (suc n)) = Plus (suc n)
sign_of (negsuc n) = Minus (suc n)
