-- Texts made of texts are texts; texts, hexadecimal and ids are bytes; decimals are integers of a block.
use Rattle.std.proofs.Common.{◌≡◌, ℕ, zero, suc, ◌+◌, ◌-◌, ◌*◌, ◌^◌, ◌<◌, ◌≤◌, ℤ, pos, negsuc, List, [], ◌∷◌, ◌++◌, length, map, Bool, true, false, cond, ◌&&◌, Some, None, IsUtf8, refl, sym, subst, arith, inl, inr, leb→le, ltb→lt, le→leb, ltb, T, slice_index, ◌/◌, ◌%◌, ◌⊎◌}
use Rattle.std.specs.Prelude.{◌==◌, option_and_then, option_map, nat_le, nat_lt}
use Rattle.std.specs.List.{AllByRecursion}
use Rattle.std.specs.Int.{to_be_bytes, w32}
use Rattle.std.proofs.lemmas.Option.{same_Some, none-some}
use Rattle.std.specs.List.{list_all}
use Rattle.std.proofs.lemmas.Bool.{ltb-false, and_parts}
use Rattle.std.proofs.lemmas.Str.{IsUtf8-append, IsUtf8-nil}
use Rattle.std.proofs.Math.Utf8.{encode, scalar, scalars, encodes, scalar_cases}
use Rattle.sha2.specs.Sha256.{sha256, digest_bytes, final_hash, initial_hash_256}
use Rattle.sha2.proofs.Facts256.{length-sha256}
use Rattle.ild_data.proofs.Cids.{block_is_cid}
use Rattle.ild_data.specs.Bytes.{AreBytes}
use Rattle.ild_data.specs.Cid.{IsCid}
use Rattle.ild_data.specs.Integer.{IsInt}
use Rattle.ild_data.specs.Spell.{id_of, cid_of}
use Rattle.ild_typed.specs.Texts.{join, join_pairs, is_parted, same_places, places, joints}
use Rattle.ild_schema.specs.Joins.{joined, pair_text}
use Rattle.ild_data.specs.Hex.{hex_digit, hex_byte, bytes_of_hex}
use Rattle.ild_data.specs.Decimal.{natural_of, below_zero, from_zero, decimal_of}
use Rattle.ild_typed.proofs.Basics.{then_from, map_from, true_from, if_from}

-- ---- texts

joined_utf8 : (delim : List ℕ) (ps : List (List ℕ)) → IsUtf8 delim → AllByRecursion IsUtf8 ps → IsUtf8 (joined delim ps)
joined_utf8 delim [] d all = IsUtf8-nil
joined_utf8 delim (p ∷ []) d all = all.0
joined_utf8 delim (p ∷ q ∷ ps) d all = IsUtf8-append p (delim ++ joined delim (q ∷ ps)) all.0 (IsUtf8-append delim (joined delim (q ∷ ps)) d (joined_utf8 delim (q ∷ ps) d all.1))

pub join_utf8 : (delim : List ℕ) (ps : List (List ℕ)) (s : List ℕ) → IsUtf8 delim → AllByRecursion IsUtf8 ps → join delim ps ≡ Some s → IsUtf8 s
join_utf8 delim ps s d all e =
    let x = true_from (same_places (places 0 delim (joined delim ps)) (joints 0 delim ps)) (joined delim ps) s e in
    subst IsUtf8 x.1 (joined_utf8 delim ps d all)

abbrev pub ArePairs : List (List ℕ × List ℕ) → Type 0
ArePairs = AllByRecursion (λ p. IsUtf8 p.0 × IsUtf8 p.1)

pair_texts_utf8 : (inner : List ℕ) (ps : List (List ℕ × List ℕ)) → IsUtf8 inner → ArePairs ps → AllByRecursion IsUtf8 (map (pair_text inner) ps)
pair_texts_utf8 inner [] i all = tt
pair_texts_utf8 inner (p ∷ ps) i all = (IsUtf8-append p.0 (inner ++ p.1) all.0.0 (IsUtf8-append inner p.1 i all.0.1), pair_texts_utf8 inner ps i all.1)

pub join_pairs_utf8 : (inner entry : List ℕ) (ps : List (List ℕ × List ℕ)) (s : List ℕ) → IsUtf8 inner → IsUtf8 entry → ArePairs ps → join_pairs inner entry ps ≡ Some s → IsUtf8 s
join_pairs_utf8 inner entry ps s i d all e =
    let x = if_from (list_all (is_parted inner) ps) (join entry (map (pair_text inner) ps)) s e in
    join_utf8 entry (map (pair_text inner) ps) s d (pair_texts_utf8 inner ps i all) x.1

-- ---- bytes

pub bytes_append : (s t : List ℕ) → AreBytes s → AreBytes t → AreBytes (s ++ t)
bytes_append [] t a b = b
bytes_append (c ∷ s) t a b = (a.0, bytes_append s t a.1 b)

pub be_bytes : (n : ℕ) → AreBytes (to_be_bytes w32 n)
be_bytes n = (omega arith, (omega arith, (omega arith, (omega arith, tt))))

digest_are_bytes : (h : List ℕ) (n : ℕ) → AreBytes (digest_bytes h n)
unfolding digest_bytes
digest_are_bytes h zero = tt
digest_are_bytes h (suc n) = bytes_append (digest_bytes h n) (to_be_bytes w32 (slice_index h n)) (digest_are_bytes h n) (be_bytes (slice_index h n))

pub id_bytes : (b : List ℕ) → AreBytes (id_of b)
unfolding sha256
id_bytes b = digest_are_bytes (final_hash initial_hash_256 b) 8

-- the link to a block
pub link_fits : (id : List ℕ) → length id ≡ 32 → AreBytes id → IsCid (cid_of id) × AreBytes (cid_of id)
link_fits id n b = (block_is_cid id n, (omega arith, (omega arith, (omega arith, (omega arith, b)))))

pub id_fits : (b : List ℕ) → IsCid (cid_of (id_of b)) × AreBytes (cid_of (id_of b))
id_fits b = link_fits (id_of b) (length-sha256 b) (id_bytes b)

-- a character's bytes
char_bytes : (c : ℕ) → scalar c ≡ true → AreBytes (encode c)
unfolding encode
char_bytes c s = by (ltb c 128) (ltb c 2048) (ltb c 65536) refl refl refl where
  top : (c < 55296) ⊎ ((57344 ≤ c) × (c < 1114112)) → c < 1114112
  top (inl h) = omega (arith, h)
  top (inr h) = h.1

  true_lt : (n : ℕ) → true ≡ ltb c n → c < n
  true_lt n e = ltb→lt c n (subst T e tt)

  by : (x y z : Bool) → x ≡ ltb c 128 → y ≡ ltb c 2048 → z ≡ ltb c 65536
      → AreBytes (cond x (c ∷ []) (cond y ((192 + c / 64) ∷ (128 + c % 64) ∷ []) (cond z ((224 + c / 4096) ∷ (128 + c / 64 % 64) ∷ (128 + c % 64) ∷ []) ((240 + c / 262144) ∷ (128 + c / 4096 % 64) ∷ (128 + c / 64 % 64) ∷ (128 + c % 64) ∷ []))))
  by true y z e f g = let h = true_lt 128 e in (omega (arith, h), tt)
  by false true z e f g = let h = true_lt 2048 f in (omega (arith, h), (omega arith, tt))
  by false false true e f g = let h = true_lt 65536 g in (omega (arith, h), (omega arith, (omega arith, tt)))
  by false false false e f g = let h = top (scalar_cases c s) in (omega (arith, h), (omega arith, (omega arith, (omega arith, tt))))

chars_bytes : (cs : List ℕ) → scalars cs ≡ true → AreBytes (encodes cs)
chars_bytes [] e = tt
chars_bytes (c ∷ cs) e = let p = and_parts (scalar c) (scalars cs) e in bytes_append (encode c) (encodes cs) (char_bytes c p.0) (chars_bytes cs p.1)

pub utf8_bytes : (s : List ℕ) → IsUtf8 s → AreBytes s
utf8_bytes s (cs, (good, is)) = subst AreBytes is (chars_bytes cs good)

-- ---- hexadecimal

digit_small : (c a : ℕ) → hex_digit c ≡ Some a → a < 16
digit_small c a e = by (nat_le 48 c && nat_le c 57) (nat_le 65 c && nat_le c 70) (nat_le 97 c && nat_le c 102) refl refl refl e where
  upper : (m n : ℕ) → true ≡ nat_le m c && nat_le c n → c ≤ n
  upper m n h = leb→le c n (subst T (sym (and_parts (nat_le m c) (nat_le c n) (sym h)).1) tt)

  by : (x y z : Bool) → x ≡ nat_le 48 c && nat_le c 57 → y ≡ nat_le 65 c && nat_le c 70 → z ≡ nat_le 97 c && nat_le c 102
      → cond x (Some (c - 48)) (cond y (Some (c - 55)) (cond z (Some (c - 87)) None)) ≡ Some a → a < 16
  by true y z f g h k = let u = upper 48 57 f in let same = same_Some (c - 48) a k in omega (arith, u, same)
  by false true z f g h k = let u = upper 65 70 g in let same = same_Some (c - 55) a k in omega (arith, u, same)
  by false false true f g h k = let u = upper 97 102 h in let same = same_Some (c - 87) a k in omega (arith, u, same)
  by false false false f g h k = absurd (none-some a k)

byte_small : (c d b : ℕ) → hex_byte c d ≡ Some b → b < 256
byte_small c d b e =
    let x = then_from (λ high. option_map (λ low. 16 * high + low) (hex_digit d)) (hex_digit c) b e in
    let y = map_from (λ low. 16 * x.item + low) (hex_digit d) b x.made in
    let u = digit_small c x.item x.there in
    let v = digit_small d y.item y.there in
    let same = same_Some (16 * x.item + y.item) b y.made in
    omega (arith, u, v, same)

pub hex_are_bytes : (cs s : List ℕ) → bytes_of_hex cs ≡ Some s → AreBytes s
hex_are_bytes [] s e = subst AreBytes (same_Some [] s e) tt
hex_are_bytes (c ∷ []) s e = absurd (none-some s e)
hex_are_bytes (c ∷ d ∷ cs) s e =
    let x = then_from (λ byte. option_map (λ rest. byte ∷ rest) (bytes_of_hex cs)) (hex_byte c d) s e in
    let y = map_from (λ rest. x.item ∷ rest) (bytes_of_hex cs) s x.made in
    subst AreBytes (same_Some (x.item ∷ y.item) s y.made) (byte_small c d x.item x.there, hex_are_bytes cs y.item y.there)

-- ---- decimals

from_zero_int : (n : ℕ) (z : ℤ) → from_zero n ≡ Some z → IsInt z
from_zero_int n z e =
    let x = true_from (nat_lt n (2 ^ 64)) (pos n) z e in
    let lt : n < 2 ^ 64 = ltb→lt n (2 ^ 64) (subst T (sym x.0) tt) in
    subst IsInt x.1 (record { le = tt }, record { le = le→leb n (2 ^ 64 - 1) (omega (arith, lt)) })

below_zero_int : (n : ℕ) (z : ℤ) → below_zero n ≡ Some z → IsInt z
below_zero_int n z e = by (n == 0) (nat_lt (2 ^ 63) n) refl e where
  by : (x y : Bool) → y ≡ nat_lt (2 ^ 63) n → cond x None (cond y None (Some (negsuc (n - 1)))) ≡ Some z → IsInt z
  by true y h k = absurd (none-some z k)
  by false true h k = absurd (none-some z k)
  by false false h k =
      let le : n ≤ 2 ^ 63 = ltb-false (2 ^ 63) n (sym h) in
      subst IsInt (same_Some (negsuc (n - 1)) z k) (record { le = le→leb (n - 1) (2 ^ 63 - 1) (omega (arith, le)) }, record { le = tt })

pub decimal_is_int : (cs : List ℕ) (z : ℤ) → decimal_of cs ≡ Some z → IsInt z
decimal_is_int [] z e = absurd (none-some z e)
decimal_is_int (c ∷ cs) z e = by (c == 45) e where
  by : (x : Bool) → cond x (option_and_then below_zero (natural_of cs)) (option_and_then from_zero (natural_of (c ∷ cs))) ≡ Some z → IsInt z
  by true h = let x = then_from below_zero (natural_of cs) z h in below_zero_int x.item z x.made
  by false h = let x = then_from from_zero (natural_of (c ∷ cs)) z h in from_zero_int x.item z x.made
