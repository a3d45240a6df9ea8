-- Texts, byte strings, keys and links: what is read was written, and what was written is read.
use Rattle.std.proofs.Common.{◌≡◌, ℕ, ◌+◌, ◌*◌, ◌/◌, ◌%◌, ◌^◌, ◌<◌, true, List, [], ◌∷◌, ◌++◌, length, drop, Ok, refl, sym, ap, subst, ◌∙◌, append_assoc, arith}
use Rattle.std.specs.Prelude.{◌==◌, IsUtf8}
use Rattle.std.specs.Str.{is_utf8}
use Rattle.std.proofs.lemmas.Bool.{eqb-true, eq-eqb, and_parts}
use Rattle.std.proofs.lemmas.Str.{is_utf8-from_IsUtf8, IsUtf8-from_is_utf8}
use Rattle.ild_data.specs.Bytes.{AreBytes}
use Rattle.ild_data.specs.Data.{Data, link}
use Rattle.ild_data.specs.Spell.{head, spell_text, spell_bytes}
use Rattle.ild_data.specs.Cid.{IsCid}
use Rattle.ild_data.specs.CidRead.{is_cid}
use Rattle.ild_data.proofs.Bytes.{AreBytes-drop}
use Rattle.ild_data.proofs.Cids.{is_cid-IsCid, IsCid-is_cid}
use Rattle.ild_cbor.specs.declared.fault.Stop.{Stop}
use Rattle.ild_cbor.specs.declared.fault.CborKind.TheVariants.{KeyKind, Utf8, Link}
use Rattle.ild_cbor.specs.Reading.{◌>>=◌, demand, stop_at, cut_at, number_at, string_at, key_at, link_at, is_link}
use Rattle.ild_cbor.proofs.Steps.{bind_ok, demand_ok, Takes, Takes-then, ok_is}
use Rattle.ild_cbor.proofs.Heads.{cut_takes, cut_again, IsHead, head_reads, head_of, number_takes}

-- ---- the first byte of a head

pub first_major : (major low : ℕ) → low < 28 → (32 * major + low) / 32 ≡ major
first_major major low lt = omega arith

pub first_low : (major low : ℕ) → low < 28 → (32 * major + low) % 32 ≡ low
first_low major low lt = omega arith

-- what a head takes with its first byte
pub head_front : (c major n : ℕ) (b tail rest : List ℕ) → c / 32 ≡ major → IsHead (c % 32) n tail → Takes b tail rest → Takes (c ∷ b) (head major n) rest
head_front c major n b tail rest e h t =
    let first : 32 * major + c % 32 ≡ c = omega arith in
    record { parts = rw (h.spells major, first) (ap (λ (u : List ℕ). c ∷ u) t.parts); fits = t.fits }

-- ---- strings

string_cell : (major : ℕ) (other : Stop) (low : ℕ) (tail s rest : List ℕ) → IsHead low (length s) tail → string_at major other ((32 * major + low) ∷ (tail ++ (s ++ rest))) ≡ Ok (s, rest)
unfolding string_at
string_cell major other low tail s rest h =
    let m : (((32 * major + low) / 32) == major) ≡ true = eq-eqb _ _ (first_major major low h.below) in
    let read = head_reads low (length s) tail ((32 * major + low) ∷ (tail ++ (s ++ rest))) (s ++ rest) h in
    rw (m, first_low major low h.below, read, cut_again (length s) s rest refl) refl

regroup : (c : ℕ) (front tail s rest : List ℕ) → front ≡ c ∷ tail → (front ++ s) ++ rest ≡ c ∷ (tail ++ (s ++ rest))
regroup c front tail s rest e = rw e (ap (λ (t : List ℕ). c ∷ t) (append_assoc tail s rest))

pub string_again : (major : ℕ) (other : Stop) (s rest : List ℕ) → length s < 2 ^ 64 → string_at major other ((head major (length s) ++ s) ++ rest) ≡ Ok (s, rest)
string_again major other s rest lt =
    let h = head_of (length s) lt in
    ap (string_at major other) (regroup (32 * major + h.low) (head major (length s)) h.tail s rest (h.is.spells major)) ∙ string_cell major other h.low h.tail s rest h.is

pub string_takes : (major : ℕ) (other : Stop) (b : List ℕ) (x : List ℕ × List ℕ) → AreBytes b → string_at major other b ≡ Ok x → Takes b (head major (length x.0) ++ x.0) x.1 × AreBytes x.0
unfolding string_at
string_takes major other [] x fits e = absurd cc
string_takes major other (c ∷ b) x fits e =
    let g = demand_ok (c / 32 == major) other (number_at (c ∷ b) (c % 32) b >>= λ n. cut_at n.0 n.1) x e in
    let s = bind_ok (number_at (c ∷ b) (c % 32) b) (λ n. cut_at n.0 n.1) x g.1 in
    let n = number_takes (c ∷ b) (c % 32) b s.0 fits.1 s.1 in
    let front = head_front c major s.0.0 b n.tail s.0.1 (eqb-true _ _ g.0) n.is n.takes in
    let cut = cut_takes s.0.0 s.0.1 x n.takes.fits s.2 in
    (rw cut.1 (Takes-then (c ∷ b) (head major s.0.0) s.0.1 x.0 x.1 front cut.0), cut.2)

-- ---- keys

pub key_again : (k rest : List ℕ) → IsUtf8 k → length k < 2 ^ 64 → key_at (spell_text k ++ rest) ≡ Ok (k, rest)
unfolding key_at
key_again k rest utf8 lt =
    let u : is_utf8 k ≡ true = is_utf8-from_IsUtf8 k utf8 in
    rw (string_again 3 (stop_at KeyKind (spell_text k ++ rest)) k rest lt, u) refl

pub key_takes : (b : List ℕ) (x : List ℕ × List ℕ) → AreBytes b → key_at b ≡ Ok x → Takes b (spell_text x.0) x.1 × IsUtf8 x.0
unfolding key_at
key_takes b x fits e =
    let s = bind_ok (string_at 3 (stop_at KeyKind b) b) (λ k. demand (is_utf8 k.0) (stop_at Utf8 b) >>= λ u. Ok k) x e in
    let g = demand_ok (is_utf8 s.0.0) (stop_at Utf8 b) (Ok s.0) x s.2 in
    let P : List ℕ × List ℕ → Type 0 = λ y. Takes b (spell_text y.0) y.1 × IsUtf8 y.0 in
    subst P (ok_is s.0 x g.1) ((string_takes 3 (stop_at KeyKind b) b s.0 fits s.1).0, IsUtf8-from_is_utf8 s.0.0 g.0)

-- ---- links

link_is : (s : List ℕ) → is_link s ≡ true → (0 ∷ drop 1 s ≡ s) × IsCid (drop 1 s)
link_is [] e = absurd cc
link_is (c ∷ s) e =
    let both = and_parts (c == 0) (is_cid s) e in
    let zero_first : c ≡ 0 = eqb-true _ _ both.0 in
    (ap (λ (k : ℕ). k ∷ s) (sym zero_first), is_cid-IsCid s both.1)

pub link_again : (from s rest : List ℕ) → IsCid s → length s + 1 < 2 ^ 64 → link_at from (spell_bytes (0 ∷ s) ++ rest) ≡ Ok (link s, rest)
unfolding link_at
link_again from s rest cid lt =
    let t : is_cid s ≡ true = IsCid-is_cid s cid in
    rw (string_again 2 (stop_at Link from) (0 ∷ s) rest (omega arith), t) refl

-- a link that was read, and what it took
pub record TookLink (b : List ℕ) (x : Data × List ℕ) : Type 0 where
  pub cid : List ℕ
  pub is : x.0 ≡ link cid
  pub takes : Takes b (spell_bytes (0 ∷ cid)) x.1
  pub form : IsCid cid
  pub all : AreBytes cid

pub link_takes : (from b : List ℕ) (x : Data × List ℕ) → AreBytes b → link_at from b ≡ Ok x → TookLink b x
unfolding link_at
link_takes from b x fits e =
    let s = bind_ok (string_at 2 (stop_at Link from) b) (λ s. demand (is_link s.0) (stop_at Link from) >>= λ u. Ok (link (drop 1 s.0), s.1)) x e in
    let g = demand_ok (is_link s.0.0) (stop_at Link from) (Ok (link (drop 1 s.0.0), s.0.1)) x s.2 in
    let t = string_takes 2 (stop_at Link from) b s.0 fits s.1 in
    let l = link_is s.0.0 g.0 in
    let front : Takes b (spell_bytes (0 ∷ drop 1 s.0.0)) s.0.1 = subst (λ (u : List ℕ). Takes b (spell_bytes u) s.0.1) (sym l.0) t.0 in
    subst (TookLink b) (ok_is (link (drop 1 s.0.0), s.0.1) x g.1) (record { cid = drop 1 s.0.0; is = refl; takes = front; form = l.1; all = AreBytes-drop 1 s.0.0 t.1 })
