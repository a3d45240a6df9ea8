-- Steps of reading that did not stop, and what they took from the front.
use Rattle.std.proofs.Common.{◌≡◌, ℕ, Bool, true, false, cond, List, ◌++◌, Option, Some, None, Result, Ok, Err, refl, sym, ap, ◌∙◌, append_assoc, inl, inr, ◌⊎◌}
use Rattle.ild_data.specs.Bytes.{AreBytes}
use Rattle.ild_cbor.specs.declared.fault.Stop.{Stop}
use Rattle.ild_cbor.specs.Reading.{◌>>=◌, refuse, demand, or_short}

-- the value of a step that did not stop
pub bind_ok : {A B : Type 0} (r : Result A Stop) (f : A → Result B Stop) (y : B) → (r >>= f) ≡ Ok y → (x : A) × (r ≡ Ok x) × (f x ≡ Ok y)
bind_ok (Ok x) f y e = (x, refl, e)
bind_ok (Err d) f y e = absurd cc

-- a test that did not stop the reading
pub refuse_ok : {B : Type 0} (t : Bool) (d : Stop) (r : Result B Stop) (y : B) → (refuse t d >>= λ u. r) ≡ Ok y → (t ≡ false) × (r ≡ Ok y)
refuse_ok true d r y e = absurd cc
refuse_ok false d r y e = (refl, e)

pub demand_ok : {B : Type 0} (t : Bool) (d : Stop) (r : Result B Stop) (y : B) → (demand t d >>= λ u. r) ≡ Ok y → (t ≡ true) × (r ≡ Ok y)
demand_ok true d r y e = (refl, e)
demand_ok false d r y e = absurd cc

-- a constructor whose other type is known
abbrev done : {A : Type 0} → A → Result A Stop
done x = Ok x

abbrev there : {A : Type 0} → A → Option A
there x = Some x

pub ok_is : {A : Type 0} (x y : A) → done x ≡ done y → x ≡ y
ok_is x y e = cc

pub some_is : {A : Type 0} (x y : A) → there x ≡ there y → x ≡ y
some_is x y e = cc

pub or_short_ok : {A : Type 0} (o : Option A) (x : A) → or_short o ≡ Ok x → o ≡ Some x
or_short_ok None x e = absurd cc
or_short_ok (Some y) x e = ap there (ok_is y x e)

-- which way a test went
pub chosen : {X : Type 0} (b : Bool) (x y z : X) → cond b x y ≡ z → ((b ≡ true) × (x ≡ z)) ⊎ ((b ≡ false) × (y ≡ z))
chosen true x y z e = inl (refl, e)
chosen false x y z e = inr (refl, e)

-- front was taken from the front of b, and rest is left
pub record Takes (b front rest : List ℕ) : Type 0 where
  pub parts : b ≡ front ++ rest
  pub fits : AreBytes rest

pub Takes-then : (a x b y c : List ℕ) → Takes a x b → Takes b y c → Takes a (x ++ y) c
Takes-then a x b y c p q = record { parts = p.parts ∙ ap (λ (t : List ℕ). x ++ t) q.parts ∙ sym (append_assoc x y c); fits = q.fits }
