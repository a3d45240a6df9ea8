-- Bytes that are read from hexadecimal, one after the other.
use Rattle.std.proofs.Common.{◌≡◌, ℕ, ◌-◌, ◌*◌, ◌/◌, ◌≤◌, true, false, length, take, take_all, drop, get_or, arith, List, [], ◌∷◌, ◌++◌, Option, Some, None, append_assoc, append-nil, refl, sym, ap, ◌∙◌}
use Rattle.std.specs.Option.{unwrap_or}
use Rattle.ild_path_marked.specs.inside.Parts.{hex_bytes}
use Rattle.std.specs.Prelude.{is_some, option_and_then, option_map}
use Rattle.std.proofs.lemmas.Option.{same_Some}
use Rattle.ild_data.specs.Hex.{bytes_of_hex, hex_byte}

-- two digits a byte
length_at : (a b : ℕ) (more s : List ℕ) (o : Option ℕ) (p : Option (List ℕ)) → ((rest : List ℕ) → p ≡ Some rest → length more ≡ 2 * length rest)
    → option_and_then (λ byte. option_map (λ rest. byte ∷ rest) p) o ≡ Some s → length (a ∷ b ∷ more) ≡ 2 * length s
length_at a b more s None p below e = absurd cc
length_at a b more s (Some byte) None below e = absurd cc
length_at a b more s (Some byte) (Some rest) below e =
    let l = below rest refl in
    let m = ap length (same_Some (byte ∷ rest) s e) in
    omega arith

hex_length : (text s : List ℕ) → bytes_of_hex text ≡ Some s → length text ≡ 2 * length s
hex_length [] s e = ap (λ xs. 2 * length xs) (same_Some [] s e)
hex_length (a ∷ []) s e = absurd cc
hex_length (a ∷ b ∷ more) s e = length_at a b more s (hex_byte a b) (bytes_of_hex more) (λ rest is. hex_length more rest is) e

pub hex_counted : (text : List ℕ) → is_some (bytes_of_hex text) ≡ true → length text / 2 ≡ length (hex_bytes text)
hex_counted text some = by (bytes_of_hex text) refl some
  where
    by : (o : Option (List ℕ)) → bytes_of_hex text ≡ o → is_some o ≡ true → length text / 2 ≡ length (unwrap_or o [])
    by None is e = absurd cc
    by (Some s) is e = let l = hex_length text s is in omega arith

-- a text that is none in hexadecimal
none_of : (o : Option (List ℕ)) → is_some o ≡ false → unwrap_or o [] ≡ []
none_of None e = refl
none_of (Some s) e = absurd cc

pub hex_uncounted : (text : List ℕ) → is_some (bytes_of_hex text) ≡ false → 0 ≡ length (hex_bytes text)
hex_uncounted text none = ap length (sym (none_of (bytes_of_hex text) none))

pub no_hex : (out text : List ℕ) → is_some (bytes_of_hex text) ≡ false → out ≡ out ++ hex_bytes text
no_hex out text none = sym (append-nil out) ∙ ap (λ xs. out ++ xs) (sym (none_of (bytes_of_hex text) none))
