-- Effects that leave all known bounds as they are.
use Rattle.std.specs.Prelude.{Bool, true, false}
use Rattle.rules.specs.declared.Effect.{Effect}
use Rattle.rules.specs.declared.Effect.TheVariants.{Keep, Forget, Shift, Copy, Object}

abbrev pub keeps_all : Effect → Bool
keeps_all Keep = true
keeps_all (Forget v) = false
keeps_all (Shift v k) = false
keeps_all (Copy v q) = false
keeps_all (Object v z n) = false
