-- A choice between two has what both have.
use Rattle.std.specs.Prelude.{Bool, true, false, cond}

pub cond_either : {A : Type 0} (P : A → Type 0) (b : Bool) (x y : A) → P x → P y → P (cond b x y)
cond_either P true x y p q = p
cond_either P false x y p q = q
