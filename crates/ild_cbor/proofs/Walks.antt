-- Reading parts one after another, as a loop does: one more part is read, the reading stops, or all are read.
use Rattle.std.proofs.Common.{subst, zero, ◌≡◌, ℕ, suc, ◌+◌, ◌-◌, ◌<◌, ◌≤◌, true, false, List, Option, Some, Result, Ok, Err, refl, sym, ap, ◌∙◌, arith}
use Rattle.ild_data.specs.Data.{Data, Items, item, Members, member}
use Rattle.ild_cbor.specs.declared.fault.Stop.{Stop}
use Rattle.ild_cbor.specs.declared.fault.CborKind.TheVariants.{KeyOrder}
use Rattle.ild_cbor.specs.Reading.{◌>>=◌, Read, stop_at, rest_of, may_follow, key_at, items_at, members_at, item_at, part_at}
use Rattle.ild_cbor.proofs.Steps.{ok_is}

-- the value that was read before these bytes
pub record ReadOf {A : Type 0} (read : Read A) (rest : List ℕ) : Type 0 where
  pub value : A
  pub is : read ≡ Ok (value, rest)

read_of : {A : Type 0} (read : Read A) (rest : List ℕ) → rest_of read ≡ Ok rest → ReadOf read rest
read_of (Ok x) rest e = record { value = x.0; is = ap (λ (r : List ℕ). Ok (x.0, r)) (ok_is x.1 rest e) }
read_of (Err f) rest e = absurd cc

abbrev stopped : {A : Type 0} → Stop → Result A Stop
stopped f = Err f

stop_is : (f g : Stop) → stopped {A = List ℕ} f ≡ stopped {A = List ℕ} g → f ≡ g
stop_is f g e = cc

stop_of : {A : Type 0} (read : Read A) (f : Stop) → rest_of read ≡ Err f → read ≡ Err f
stop_of (Ok x) f e = absurd cc
stop_of (Err g) f e = ap stopped (stop_is g f e)

past_item : (d : Data) (read : Read Items) → rest_of (read >>= λ ds. Ok (item d ds.0, ds.1)) ≡ rest_of read
past_item d (Ok x) = refl
past_item d (Err f) = refl

past_member : (k : List ℕ) (d : Data) (read : Read Members) → rest_of (read >>= λ ms. Ok (member k d ms.0, ms.1)) ≡ rest_of read
past_member k d (Ok x) = refl
past_member k d (Err f) = refl

pub part_is : (room : ℕ) (b : List ℕ) → 0 < room → item_at (room - 1) b ≡ part_at room b
unfolding part_at
part_is zero b lt = absurd (omega arith)
part_is (suc room) b lt =
    let e : suc room - 1 ≡ room = omega arith in
    subst (λ (k : ℕ). item_at k b ≡ part_at (suc room) b) (sym e) refl

pub part_rest : (room : ℕ) (b : List ℕ) (x : Result (List ℕ) Stop) → 0 < room → rest_of (item_at (room - 1) b) ≡ x → rest_of (part_at room b) ≡ x
part_rest room b x lt e = ap rest_of (sym (part_is room b lt)) ∙ e

-- ---- items

pub items_step : (r : List ℕ → Read Data) (n i : ℕ) (b after : List ℕ) (total : Result (List ℕ) Stop) → i < n → rest_of (r b) ≡ Ok after
    → rest_of (items_at r (n - i) b) ≡ total → rest_of (items_at r (n - (i + 1)) after) ≡ total
unfolding items_at
items_step r n i b after total lt first so_far =
    let k : n - i ≡ suc (n - (i + 1)) = omega arith in
    let d = read_of (r b) after first in
    let one : rest_of (items_at r (n - i) b) ≡ rest_of (items_at r (n - (i + 1)) after) = rw (k, d.is) (past_item d.value (items_at r (n - (i + 1)) after)) in
    sym one ∙ so_far

pub items_stop : (r : List ℕ → Read Data) (n i : ℕ) (b : List ℕ) (f : Stop) (total : Result (List ℕ) Stop) → i < n → rest_of (r b) ≡ Err f
    → rest_of (items_at r (n - i) b) ≡ total → total ≡ Err f
unfolding items_at
items_stop r n i b f total lt first so_far =
    let k : n - i ≡ suc (n - (i + 1)) = omega arith in
    let e = stop_of (r b) f first in
    let one : rest_of (items_at r (n - i) b) ≡ Err f = rw (k, e) refl in
    sym so_far ∙ one

pub items_end : (r : List ℕ → Read Data) (n i : ℕ) (b : List ℕ) (total : Result (List ℕ) Stop) → n ≤ i → rest_of (items_at r (n - i) b) ≡ total → total ≡ Ok b
unfolding items_at
items_end r n i b total le so_far =
    let k : n - i ≡ 0 = omega arith in
    let one : rest_of (items_at r (n - i) b) ≡ Ok b = rw k refl in
    sym so_far ∙ one

-- ---- entries

pub members_step : (r : List ℕ → Read Data) (before : Option (List ℕ)) (n i : ℕ) (b k behind after : List ℕ) (total : Result (List ℕ) Stop) → i < n
    → key_at b ≡ Ok (k, behind) → may_follow before k ≡ true → rest_of (r behind) ≡ Ok after
    → rest_of (members_at r before (n - i) b) ≡ total → rest_of (members_at r (Some k) (n - (i + 1)) after) ≡ total
unfolding members_at
members_step r before n i b k behind after total lt key order first so_far =
    let m : n - i ≡ suc (n - (i + 1)) = omega arith in
    let d = read_of (r behind) after first in
    let one : rest_of (members_at r before (n - i) b) ≡ rest_of (members_at r (Some k) (n - (i + 1)) after) =
    rw (m, key, order, d.is) (past_member k d.value (members_at r (Some k) (n - (i + 1)) after)) in
    sym one ∙ so_far

pub members_no_key : (r : List ℕ → Read Data) (before : Option (List ℕ)) (n i : ℕ) (b : List ℕ) (f : Stop) (total : Result (List ℕ) Stop) → i < n
    → key_at b ≡ Err f → rest_of (members_at r before (n - i) b) ≡ total → total ≡ Err f
unfolding members_at
members_no_key r before n i b f total lt key so_far =
    let m : n - i ≡ suc (n - (i + 1)) = omega arith in
    let one : rest_of (members_at r before (n - i) b) ≡ Err f = rw (m, key) refl in
    sym so_far ∙ one

pub members_no_order : (r : List ℕ → Read Data) (before : Option (List ℕ)) (n i : ℕ) (b k behind : List ℕ) (total : Result (List ℕ) Stop) → i < n
    → key_at b ≡ Ok (k, behind) → may_follow before k ≡ false → rest_of (members_at r before (n - i) b) ≡ total → total ≡ Err (stop_at KeyOrder b)
unfolding members_at
members_no_order r before n i b k behind total lt key order so_far =
    let m : n - i ≡ suc (n - (i + 1)) = omega arith in
    let one : rest_of (members_at r before (n - i) b) ≡ Err (stop_at KeyOrder b) = rw (m, key, order) refl in
    sym so_far ∙ one

pub members_no_part : (r : List ℕ → Read Data) (before : Option (List ℕ)) (n i : ℕ) (b k behind : List ℕ) (f : Stop) (total : Result (List ℕ) Stop) → i < n
    → key_at b ≡ Ok (k, behind) → may_follow before k ≡ true → rest_of (r behind) ≡ Err f → rest_of (members_at r before (n - i) b) ≡ total → total ≡ Err f
unfolding members_at
members_no_part r before n i b k behind f total lt key order part so_far =
    let m : n - i ≡ suc (n - (i + 1)) = omega arith in
    let e = stop_of (r behind) f part in
    let one : rest_of (members_at r before (n - i) b) ≡ Err f = rw (m, key, order, e) refl in
    sym so_far ∙ one

pub members_end : (r : List ℕ → Read Data) (before : Option (List ℕ)) (n i : ℕ) (b : List ℕ) (total : Result (List ℕ) Stop) → n ≤ i
    → rest_of (members_at r before (n - i) b) ≡ total → total ≡ Ok b
unfolding members_at
members_end r before n i b total le so_far =
    let k : n - i ≡ 0 = omega arith in
    let one : rest_of (members_at r before (n - i) b) ≡ Ok b = rw k refl in
    sym so_far ∙ one
