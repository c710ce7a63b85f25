-- Lagrange's basis polynomials, by their values and by their coefficients: each is 01 at one of the points and 00 at the others. e is the number of leading coefficients; these
-- polynomials have none of them, so that each has the factor z^(e+1). A sum is a difference here, since a + a = 00. Assumes nothing.
use Rattle.std.specs.Prelude.{Bool, true, false, List, [], ◌∷◌, ℕ, zero, suc, eqb, length, get_or}
use Rattle.field.specs.Field.{add, mul, pow}

-- the value at z of the polynomial whose coefficients, from the power 0 on, are listed; by Horner's rule
unfoldable pub value : List ℕ → ℕ → ℕ
value [] z = 0
value (a ∷ p) z = add a (mul z (value p z))

-- the coefficients of r + (z - c)·q, in the same order
unfoldable pub times : ℕ → ℕ → List ℕ → List ℕ
times c r [] = r ∷ []
times c r (a ∷ q) = add r (mul c a) ∷ times c a q

-- f 0 · f 1 · .. · f (n - 1)
unfoldable pub product : ℕ → (ℕ → ℕ) → ℕ
product zero f = 1
product (suc n) f = mul (product n f) (f n)

-- 01 for yes, a for no
unfoldable pub unless : Bool → ℕ → ℕ
unless true a = 1
unless false a = a

-- the factor of the point d in the product for the point x, at z: z - d, or 01 where d is x itself
unfoldable pub factor : ℕ → ℕ → ℕ → ℕ
factor x z d = unless (eqb d x) (add z d)

-- q for yes, (z - d)·q for no
unfoldable pub widen : Bool → ℕ → List ℕ → List ℕ
widen true d q = q
widen false d q = times d 0 q

-- the coefficients of the product of all z - d, for those of the first n points d of ps that are not x
unfoldable pub coefs : List ℕ → ℕ → ℕ → List ℕ
coefs ps x zero = 1 ∷ []
coefs ps x (suc n) = widen (eqb (get_or ps n 0) x) (get_or ps n 0) (coefs ps x n)

-- z^(e+1) times the product of all z - d, for the points d of ps other than x: 00 at these points. At x it is the inverse of x's barycentric weight.
unfoldable pub apart : ℕ → List ℕ → ℕ → ℕ → ℕ
apart e ps x z = mul (pow z (suc e)) (product (length ps) (λ j. factor x z (get_or ps j 0)))

-- the Lagrange basis value of the point x at z: the same times the barycentric weight of x, so that it is 01 at x
unfoldable pub basis_value : ℕ → List ℕ → ℕ → ℕ → ℕ
basis_value e ps x z = mul (apart e ps x z) (pow (apart e ps x x) 254)
