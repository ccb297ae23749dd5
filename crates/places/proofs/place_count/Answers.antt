use native.Mathlib.Omega.{arith}
use Rattle.places.specs.Positions.{place_count, capacity}
use Rattle.places.proofs.place_count.Goals as goal

pub returns-then-kept-room : goal.returns-then-kept-room
unfolding place_count
returns-then-kept-room c = omega (arith, c.capacity-room.ensures, c.if-kept-room.true)

pub returns-else-kept-room : goal.returns-else-kept-room
unfolding place_count
returns-else-kept-room c = omega (arith, c.capacity-room.ensures, c.if-kept-room.false)

pub returns-then-store-eq0 : goal.returns-then-store-eq0
unfolding place_count capacity
returns-then-store-eq0 c = omega arith
