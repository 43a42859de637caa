-- A part of a view stays below the view's end.
use Rattle.std.proofs.Common.{ℕ, ◌+◌, ◌*◌, ◌-◌, ◌≤◌, arith}
use Rattle.std.proofs.Math.Nat.{mul-le-mul_left}

part : (f a b x dx w y dy h top : ℕ) → x + dx ≤ w → y + dy ≤ h → f + (w * a + h * b) ≤ top → f + (x * a + y * b) + (dx * a + dy * b) ≤ top
part f a b x dx w y dy h top l m n = omega (arith, mul-le-mul_left a l, mul-le-mul_left b m, n)

pub region_small : (f a b x x' w y y' h top : ℕ) → x ≤ x' → x' ≤ w → y ≤ y' → y' ≤ h → f + (w * a + h * b) ≤ top
    → f + (x * a + y * b) + ((x' - x) * a + (y' - y) * b) ≤ top
region_small f a b x x' w y y' h top l m n o p = part f a b x (x' - x) w y (y' - y) h top (omega arith) (omega arith) p
