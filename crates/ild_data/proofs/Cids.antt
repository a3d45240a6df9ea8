-- What the reading rules read is a CID of the grammar, and each such CID is read.
use Rattle.std.proofs.Common.{◌≡◌, ℕ, ◌<◌, ◌≤◌, Bool, true, false, List, [], ◌∷◌, ◌++◌, length, nat_lt, ◌==◌, refl, ap, sym, ◌∙◌, arith, subst, append_assoc, if◌then◌else◌}
use Rattle.std.specs.Prelude.{Ok, Err, Result, is_ok}
use Rattle.ild_data.specs.declared.fault.CidFault.{CidFault}
use Rattle.ild_data.specs.declared.fault.CidFault.TheVariants.{Version, Short, Long, Rest}
use Rattle.std.proofs.lemmas.Bool.{eqb-true}
use Rattle.std.proofs.lemmas.Bool.Decides.{nat_tests}
use Rattle.ild_data.specs.CidTextRead.{checked_by}
use Rattle.ild_data.proofs.Varints.{bind_ok, read_varint-sound, read_varint-complete, one_form}
use Rattle.ild_data.specs.Varint.{AreGroups, IsVarint}
use Rattle.ild_data.specs.Cid.{CidOf, IsCid}
use Rattle.ild_data.specs.Data.{link}
use Rattle.ild_data.specs.Tree.{IsTree}
use Rattle.ild_data.specs.Spell.{cid_of}
use Rattle.ild_data.specs.CidRead.{read_varint, read_version, read_digest, read_cid, is_cid, cid_parts, parts_or_none, CidParts, ◌>>=◌}

-- parts that were read
pub parts_read : (s : List ℕ) (p : CidParts) → read_cid s ≡ Ok p → cid_parts s ≡ p
unfolding cid_parts
parts_read s p is = rw is refl

pub is_cid_read : (s : List ℕ) (p : CidParts) → read_cid s ≡ Ok p → is_cid s ≡ true
unfolding is_cid
is_cid_read s p is = rw is refl

-- a CID is read without a fault
pub is_read : (s : List ℕ) (e : CidFault) → is_cid s ≡ true → read_cid s ≡ Err e → ⊥
unfolding is_cid
is_read s e is err = let wrong : is_ok (read_cid s) ≡ false = ap is_ok err in let same : true ≡ false = sym is ∙ wrong in cc

ok_parts : (r : Result CidParts CidFault) → is_ok r ≡ true → r ≡ Ok (parts_or_none r)
ok_parts (Ok p) is = refl
ok_parts (Err e) is = absurd (cc)

pub of_is_cid : (s : List ℕ) → is_cid s ≡ true → read_cid s ≡ Ok (cid_parts s)
unfolding is_cid cid_parts
of_is_cid s is = ok_parts (read_cid s) is

version_cases : (t : Bool) (x rest : List ℕ) → (if t then Ok x else Err Version) ≡ Ok rest → (t ≡ true) × (x ≡ rest)
version_cases true x rest is = (refl, (cc))
version_cases false x rest is = absurd (cc)

pub read_version-sound : (s rest : List ℕ) → read_version s ≡ Ok rest → s ≡ 1 ∷ rest
unfolding read_version
read_version-sound s rest is =
    let h = bind_ok (read_varint s) (λ (v : ℕ × List ℕ). if v.0 == 1 then Ok v.1 else Err Version) rest is in
    let k = version_cases (h.0.0 == 1) h.0.1 rest h.2 in
    let g = read_varint-sound s h.0.0 h.0.1 h.1 in
    let one : h.0.0 ≡ 1 = eqb-true h.0.0 1 k.0 in
    let form : g.form ≡ 1 ∷ [] = one_form g.form 1 (subst (AreGroups g.form) one g.varint.groups) (omega arith) in
    g.is ∙ ap (λ t. t ++ h.0.1) form ∙ ap (λ t. 1 ∷ t) k.1

pub read_version-complete : (rest : List ℕ) → read_version (1 ∷ rest) ≡ Ok rest
unfolding read_version
read_version-complete rest = rw (read_varint-complete (1 ∷ []) 1 rest (record { groups = (omega arith, refl); short = omega arith })) refl

digest_cases : (t u v : Bool) (s digest : List ℕ) → (if t then Err Long else if u then Err Short else if v then Err Rest else Ok s) ≡ Ok digest
    → (t ≡ false) × (u ≡ false) × (v ≡ false) × (s ≡ digest)
digest_cases true u v s digest is = absurd (cc)
digest_cases false true v s digest is = absurd (cc)
digest_cases false false true s digest is = absurd (cc)
digest_cases false false false s digest is = (refl, refl, refl, (cc))

at_most : (a b : ℕ) → nat_lt a b ≡ false → b ≤ a
at_most a b is = grind (arith, nat_tests)

pub record DigestRead (size : ℕ) (s digest : List ℕ) : Type 0 where
  pub sized : size ≡ length digest
  pub short : length digest ≤ 64
  pub is : s ≡ digest

pub read_digest-sound : (size : ℕ) (s digest : List ℕ) → read_digest size s ≡ Ok digest → DigestRead size s digest
unfolding read_digest
read_digest-sound size s digest is =
    let h = digest_cases (nat_lt 64 size) (nat_lt (length s) size) (nat_lt size (length s)) s digest is in
    let e : length s ≡ length digest = ap length h.3 in
    let a : size ≤ 64 = at_most 64 size h.0 in
    let b : size ≤ length s = at_most (length s) size h.1 in
    let c : length s ≤ size = at_most size (length s) h.2 in
    record { sized = omega arith; short = omega arith; is = h.3 }

not_above : (a b : ℕ) → b ≤ a → nat_lt a b ≡ false
not_above a b le = grind (arith, nat_tests)

pub read_digest-complete : (digest : List ℕ) → length digest ≤ 64 → read_digest (length digest) digest ≡ Ok digest
unfolding read_digest
read_digest-complete digest le = rw (not_above 64 (length digest) le, not_above (length digest) (length digest) (omega arith)) refl

abbrev after_size : ℕ → ℕ → ℕ × List ℕ → Result CidParts CidFault
after_size codec hash size = read_digest size.0 size.1 >>= λ digest. Ok (record { codec = codec; hash = hash; digest = digest })

abbrev after_hash : ℕ → ℕ × List ℕ → Result CidParts CidFault
after_hash codec hash = read_varint hash.1 >>= λ size. after_size codec hash.0 size

abbrev after_codec : ℕ × List ℕ → Result CidParts CidFault
after_codec codec = read_varint codec.1 >>= λ hash. after_hash codec.0 hash

abbrev after_version : List ℕ → Result CidParts CidFault
after_version rest = read_varint rest >>= λ codec. after_codec codec

joined : (a b c d : List ℕ) → a ++ (b ++ (c ++ d)) ≡ a ++ b ++ c ++ d
joined a b c d = simp append_assoc

parts_are : (p q : CidParts) → ◌≡◌ {A = Result CidParts CidFault} (Ok p) (Ok q) → p ≡ q
parts_are p q is = ap parts_or_none is

pub read_cid-sound : (s : List ℕ) (p : CidParts) → read_cid s ≡ Ok p → CidOf s p.codec p.hash p.digest
unfolding read_cid
read_cid-sound s p is =
    let version = bind_ok (read_version s) after_version p is in
    let codec = bind_ok (read_varint version.0) after_codec p version.2 in
    let hash = bind_ok (read_varint codec.0.1) (after_hash codec.0.0) p codec.2 in
    let size = bind_ok (read_varint hash.0.1) (after_size codec.0.0 hash.0.0) p hash.2 in
    let digest = bind_ok (read_digest size.0.0 size.0.1) (λ (d : List ℕ). Ok (record { codec = codec.0.0; hash = hash.0.0; digest = d })) p size.2 in
    let a = read_varint-sound version.0 codec.0.0 codec.0.1 codec.1 in
    let b = read_varint-sound codec.0.1 hash.0.0 hash.0.1 hash.1 in
    let c = read_varint-sound hash.0.1 size.0.0 size.0.1 size.1 in
    let d = read_digest-sound size.0.0 size.0.1 digest.0 digest.1 in
    let e : size.0.0 ≡ length digest.0 = d.sized in
    let parts : CidOf s codec.0.0 hash.0.0 digest.0 = record {
      codec_form = a.form;
      hash_form = b.form;
      size_form = c.form;
      is = read_version-sound s version.0 version.1 ∙ ap (λ t. 1 ∷ t)
          (a.is ∙ ap (λ t. a.form ++ t) (b.is ∙ ap (λ t. b.form ++ t) (c.is ∙ ap (λ t. c.form ++ t) d.is)) ∙ joined a.form b.form c.form digest.0);
      codec_is = a.varint;
      hash_is = b.varint;
      size_is = subst (IsVarint c.form) e c.varint;
      short = d.short;
    } in
    subst (λ (q : CidParts). CidOf s q.codec q.hash q.digest) (parts_are (record { codec = codec.0.0; hash = hash.0.0; digest = digest.0 }) p digest.2) parts

pub read_cid-complete : (s : List ℕ) (codec hash : ℕ) (digest : List ℕ) → CidOf s codec hash digest → read_cid s ≡ Ok (record { codec = codec; hash = hash; digest = digest })
unfolding read_cid
read_cid-complete s codec hash digest of =
    rw (
      of.is,
      sym (joined of.codec_form of.hash_form of.size_form digest),
      read_version-complete (of.codec_form ++ (of.hash_form ++ (of.size_form ++ digest))),
      read_varint-complete of.codec_form codec (of.hash_form ++ (of.size_form ++ digest)) of.codec_is,
      read_varint-complete of.hash_form hash (of.size_form ++ digest) of.hash_is,
      read_varint-complete of.size_form (length digest) digest of.size_is,
      read_digest-complete digest of.short,
    ) refl

pub is_cid-IsCid : (s : List ℕ) → is_cid s ≡ true → IsCid s
is_cid-IsCid s is = record { codec = (cid_parts s).codec; hash = (cid_parts s).hash; digest = (cid_parts s).digest; parts = read_cid-sound s (cid_parts s) (of_is_cid s is) }

pub IsCid-is_cid : (s : List ℕ) → IsCid s → is_cid s ≡ true
IsCid-is_cid s of = is_cid_read s _ (read_cid-complete s of.codec of.hash of.digest of.parts)

-- a link of a tree is a CID
pub is_link_cid : (s : List ℕ) → IsTree (link s) → IsCid s
is_link_cid s tree = tree.0

pub not_read : (s : List ℕ) (e : CidFault) → read_cid s ≡ Err e → IsCid s → ⊥
not_read s e is of = let h = read_cid-complete s of.codec of.hash of.digest of.parts in cc

pub checked_cid : (s : List ℕ) → IsCid s → checked_by s (read_cid s) ≡ Ok s
checked_cid s of = rw (read_cid-complete s of.codec of.hash of.digest of.parts) refl

a_byte : (n : ℕ) → n < 128 → IsVarint (n ∷ []) n
a_byte n lt = record { groups = (lt, refl); short = omega arith }

-- the CID of a block
pub block_cid : (id : List ℕ) → length id ≡ 32 → CidOf (cid_of id) 0x71 0x12 id
block_cid id is = record {
  codec_form = 0x71 ∷ [];
  hash_form = 0x12 ∷ [];
  size_form = 0x20 ∷ [];
  is = refl;
  codec_is = a_byte 0x71 (omega arith);
  hash_is = a_byte 0x12 (omega arith);
  size_is = rw is (a_byte 0x20 (omega arith));
  short = omega (arith, is);
}

pub block_is_cid : (id : List ℕ) → length id ≡ 32 → IsCid (cid_of id)
block_is_cid id is = record { codec = 0x71; hash = 0x12; digest = id; parts = block_cid id is }

pub block_parts : (s id : List ℕ) → length id ≡ 32 → s ≡ cid_of id → cid_parts s ≡ record { codec = 0x71; hash = 0x12; digest = id }
block_parts s id is e = parts_read s _ (ap read_cid e ∙ read_cid-complete (cid_of id) 0x71 0x12 id (block_cid id is))

form_of : (form : List ℕ) (n k : ℕ) → IsVarint form n → n ≡ k → k < 128 → form ≡ k ∷ []
form_of form n k of is lt = one_form form k (subst (AreGroups form) is of.groups) lt

of_block : (s digest : List ℕ) (codec hash : ℕ) → CidOf s codec hash digest → codec ≡ 0x71 → hash ≡ 0x12 → length digest ≡ 32 → s ≡ cid_of digest
of_block s digest codec hash of a b c =
    rw (
      of.is,
      form_of of.codec_form codec 0x71 of.codec_is a (omega arith),
      form_of of.hash_form hash 0x12 of.hash_is b (omega arith),
      form_of of.size_form (length digest) 0x20 of.size_is c (omega arith),
    ) refl

pub is_block : (s : List ℕ) → is_cid s ≡ true → (cid_parts s).codec ≡ 0x71 → (cid_parts s).hash ≡ 0x12 → length (cid_parts s).digest ≡ 32 → s ≡ cid_of (cid_parts s).digest
is_block s is a b c = of_block s (cid_parts s).digest (cid_parts s).codec (cid_parts s).hash (read_cid-sound s (cid_parts s) (of_is_cid s is)) a b c
