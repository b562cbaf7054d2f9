-- Which branch of an `if` gave a value.
use Rattle.std.proofs.Common.{◌≡◌, Bool, true, false, cond, refl}

pub by_branch : {X P : Type 0} (b : Bool) (x y z : X) → cond b x y ≡ z → (b ≡ true → x ≡ z → P) → (b ≡ false → y ≡ z → P) → P
by_branch true x y z e first second = first refl e
by_branch false x y z e first second = second refl e
