-- The ids that the texts of roots give.
use Rattle.std.proofs.Common.{◌≡◌, ◌⊎◌, ◌↔◌, ℕ, List, length, Bool, true, false, ◌==◌, ◌&&◌, if◌then◌else◌, eq-eqb, Option, Some, None, IsSome, IfSome, option_map, Result, Ok, Err, refl, sym, ap, ◌∙◌, inl, inr}
use Rattle.std.proofs.lemmas.Bool.{eqb-true, and_from, and_parts}
use Rattle.ild_data.specs.CidRead.{CidParts, cid_parts}
use Rattle.ild_data.specs.CidTextRead.{read_cid_text}
use Rattle.ild_data.specs.declared.fault.TextErr.{TextErr}
use Rattle.ild_data.specs.declared.fault.TextErr.TheVariants as E
use Rattle.ild_data.specs.declared.id.BlockId.{BlockId}
use Rattle.std.specs.declared.alloc.AllocError.{AllocError}
use Rattle.ild_data_root.specs.Root.{block_in, root_in, no_root, AsksRoot}

abbrev is_block : CidParts → Bool
is_block parts = parts.codec == 0x71 && (parts.hash == 0x12 && length parts.digest == 32)

by_test : (parts : CidParts) (t : Bool) → is_block parts ≡ t → block_in parts ≡ (if t then Some parts.digest else None)
by_test parts t e = ap (λ (b : Bool). if b then Some parts.digest else None) e

told : (parts : CidParts) (found : Option BlockId) → (IsSome found ↔ ((parts.codec ≡ 0x71) × (parts.hash ≡ 0x12) × (length parts.digest ≡ 32))) → IfSome found (λ id. id.0 ≡ parts.digest)
    → option_map (λ (id : BlockId). id.0) found ≡ block_in parts
told parts (Some id) is same =
    let p = is.0 refl in
    ap Some same ∙ sym (by_test parts true (and_from (parts.codec == 0x71) (parts.hash == 0x12 && length parts.digest == 32) (eq-eqb parts.codec 0x71 p.0) (and_from (parts.hash == 0x12) (length parts.digest == 32) (eq-eqb parts.hash 0x12 p.1) (eq-eqb (length parts.digest) 32 p.2))))
told parts None is same = by (is_block parts) refl
  where
    by : (t : Bool) → is_block parts ≡ t → None ≡ block_in parts
    by false e = sym (by_test parts false e)
    by true e =
        let p = and_parts (parts.codec == 0x71) (parts.hash == 0x12 && length parts.digest == 32) e in
        let q = and_parts (parts.hash == 0x12) (length parts.digest == 32) p.1 in
        let none : false ≡ true = is.1 (eqb-true parts.codec 0x71 p.0, eqb-true parts.hash 0x12 q.0, eqb-true (length parts.digest) 32 q.1) in
        absurd (let e : false ≡ true = none in cc)

-- the text of a CID
pub root_seen : (text cid : List ℕ) (found : Option BlockId) → read_cid_text text ≡ Ok cid
    → (IsSome found ↔ (((cid_parts cid).codec ≡ 0x71) × ((cid_parts cid).hash ≡ 0x12) × (length (cid_parts cid).digest ≡ 32))) → IfSome found (λ id. id.0 ≡ (cid_parts cid).digest)
    → AsksRoot text (Ok found)
root_seen text cid found read is same = told (cid_parts cid) found is same ∙ sym (ap root_in read)

-- a text that is none
pub no_root_seen : (text : List ℕ) (e : TextErr) (found : Result (Option BlockId) AllocError) → (e ≡ E.Memory) ⊎ (read_cid_text text ≡ Err e) → no_root e found → AsksRoot text found
no_root_seen text e (Err f) either none = tt
no_root_seen text E.Memory (Ok found) either none = absurd none
no_root_seen text E.Prefix (Ok found) (inl is) none = absurd (let e : E.Prefix ≡ E.Memory = is in cc)
no_root_seen text E.Prefix (Ok found) (inr read) none = ap (option_map (λ (id : BlockId). id.0)) none ∙ sym (ap root_in read)
no_root_seen text E.Digit (Ok found) (inl is) none = absurd (let e : E.Digit ≡ E.Memory = is in cc)
no_root_seen text E.Digit (Ok found) (inr read) none = ap (option_map (λ (id : BlockId). id.0)) none ∙ sym (ap root_in read)
no_root_seen text E.Bits (Ok found) (inl is) none = absurd (let e : E.Bits ≡ E.Memory = is in cc)
no_root_seen text E.Bits (Ok found) (inr read) none = ap (option_map (λ (id : BlockId). id.0)) none ∙ sym (ap root_in read)
no_root_seen text (E.Cid fault) (Ok found) (inl is) none = absurd (let e : E.Cid fault ≡ E.Memory = is in cc)
no_root_seen text (E.Cid fault) (Ok found) (inr read) none = ap (option_map (λ (id : BlockId). id.0)) none ∙ sym (ap root_in read)
