-- Bytes behind a prefix in hexadecimal.
use Rattle.std.proofs.Common.{◌≡◌, List, ℕ, [], true, false, ◌++◌, Option, Some, None, refl, sym, ap, ◌∙◌}
use Rattle.std.proofs.lemmas.Option.{same_Some}
use Rattle.std.specs.Prelude.{is_some, option_and_then, option_map}
use Rattle.std.specs.Option.{unwrap_or}
use Rattle.ild_cbor.specs.Scalar.{bytes_of}
use Rattle.ild_data.specs.Data as T
use Rattle.ild_data.specs.Data.{Data}
use Rattle.ild_path_marked.specs.inside.Parts.{behind_hex, hex_bytes}
use Rattle.ild_schema.specs.declared.def.UnionForm.TheVariants as F
use Rattle.ild_data.specs.Hex.{bytes_of_hex}
use Rattle.ild_typed.specs.Composed.{marked_form}

nothing_of : (o : Option (List ℕ)) → option_and_then {U = Data} (λ (front : List ℕ). None) o ≡ None
nothing_of None = refl
nothing_of (Some front) = refl

behind_form : (name s : List ℕ) (o : Option (List ℕ)) → bytes_of_hex name ≡ o → behind_hex name s ≡ marked_form F.BytesPrefix (T.bytes s) name
behind_form name s None e = rw e refl
behind_form name s (Some front) e = rw e refl

pub known_bytes : (d : Data) (name s : List ℕ) → Some s ≡ bytes_of d → behind_hex name s ≡ marked_form F.BytesPrefix d name
known_bytes T.null name s e = absurd cc
known_bytes (T.boolean b) name s e = absurd cc
known_bytes (T.integer n) name s e = absurd cc
known_bytes (T.text t) name s e = absurd cc
known_bytes (T.bytes t) name s e = ap (behind_hex name) (same_Some s t e) ∙ behind_form name t (bytes_of_hex name) refl
known_bytes (T.list ds) name s e = absurd cc
known_bytes (T.map ms) name s e = absurd cc
known_bytes (T.link t) name s e = absurd cc

pub no_bytes : (d : Data) (name : List ℕ) → None ≡ bytes_of d → None ≡ marked_form F.BytesPrefix d name
no_bytes T.null name e = sym (nothing_of (bytes_of_hex name))
no_bytes (T.boolean b) name e = sym (nothing_of (bytes_of_hex name))
no_bytes (T.integer n) name e = sym (nothing_of (bytes_of_hex name))
no_bytes (T.text t) name e = sym (nothing_of (bytes_of_hex name))
no_bytes (T.bytes t) name e = absurd cc
no_bytes (T.list ds) name e = sym (nothing_of (bytes_of_hex name))
no_bytes (T.map ms) name e = sym (nothing_of (bytes_of_hex name))
no_bytes (T.link t) name e = sym (nothing_of (bytes_of_hex name))

-- a prefix that is one in hexadecimal, and one that is none
pub hex_data : (name prefix rest : List ℕ) → prefix ≡ name → is_some (bytes_of_hex prefix) ≡ true → Some (T.bytes (hex_bytes prefix ++ rest)) ≡ behind_hex name rest
hex_data name prefix rest same some = by (bytes_of_hex prefix) some ∙ ap (λ xs. behind_hex xs rest) same
  where
    by : (o : Option (List ℕ)) → is_some o ≡ true → Some (T.bytes (unwrap_or o [] ++ rest)) ≡ option_map (λ front. T.bytes (front ++ rest)) o
    by None e = absurd cc
    by (Some front) e = refl

pub no_hex_data : (name prefix rest : List ℕ) → prefix ≡ name → is_some (bytes_of_hex prefix) ≡ false → None ≡ behind_hex name rest
no_hex_data name prefix rest same none = by (bytes_of_hex prefix) none ∙ ap (λ xs. behind_hex xs rest) same
  where
    by : (o : Option (List ℕ)) → is_some o ≡ false → None ≡ option_map (λ front. T.bytes (front ++ rest)) o
    by None e = refl
    by (Some front) e = absurd cc
