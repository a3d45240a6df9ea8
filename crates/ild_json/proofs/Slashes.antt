-- The only member of an object, and the faults of what stands in it.
use Rattle.std.proofs.Common.{◌≡◌, ◌⊎◌, inl, inr, ℕ, List, Bool, true, false, None, Result, Err, nat_eq, refl, ap, arith}
use Rattle.serde_json.specs.Data.{Members}
use Rattle.serde_json.specs.Events.{members_len}
use Rattle.serde_json.specs.Find.{get_member}
use Rattle.base64.specs.declared.decode.DecodeAllocError.{DecodeAllocError}
use Rattle.base64.specs.declared.decode.DecodeAllocError.TheVariants as D
use Rattle.base64.specs.Engines.{standard_no_pad}
use Rattle.base64.specs.GeneralPurpose.{IsDecodeFailure}
use Rattle.ild_data.specs.CidTextRead.{read_cid_text}
use Rattle.ild_data.specs.declared.fault.TextErr.{TextErr}
use Rattle.ild_data.specs.declared.fault.TextErr.TheVariants as T
use Rattle.ild_json.specs.declared.error.JsonErr.TheVariants as E
use Rattle.ild_json.specs.Faults.{text_fault, decode_fault}
use Rattle.ild_json.specs.Reading.{link_or_fault, link_read, bytes_or_fault, bytes_read}
use Rattle.ild_json.specs.Slash.{only_member}

pub only_member-one : (k : List ℕ) (ms : Members) → members_len ms ≡ 1 → only_member k ms ≡ get_member k ms
unfolding only_member
only_member-one k ms one = rw one refl

differs : (n : ℕ) (b : Bool) → nat_eq n 1 ≡ b → (n ≡ 1 → ⊥) → b ≡ false
differs n true is apart = absurd (apart (grind arith))
differs n false is apart = refl

pub only_member-others : (k : List ℕ) (ms : Members) → (members_len ms ≡ 1 → ⊥) → only_member k ms ≡ None
unfolding only_member
only_member-others k ms apart = rw (differs (members_len ms) _ refl apart) refl

refused : (e : TextErr) (r : Result (List ℕ) TextErr) → (e ≡ T.Memory) ⊎ (r ≡ Err e) → (text_fault e ≡ E.Memory) ⊎ (link_or_fault r ≡ Err (text_fault e))
refused T.Memory r why = inl refl
refused T.Prefix r (inl why) = absurd cc
refused T.Prefix r (inr why) = inr (ap link_or_fault why)
refused T.Digit r (inl why) = absurd cc
refused T.Digit r (inr why) = inr (ap link_or_fault why)
refused T.Bits r (inl why) = absurd cc
refused T.Bits r (inr why) = inr (ap link_or_fault why)
refused (T.Cid fault) r (inl why) = absurd cc
refused (T.Cid fault) r (inr why) = inr (ap link_or_fault why)

pub link_refused : (e : TextErr) (s : List ℕ) → (e ≡ T.Memory) ⊎ (read_cid_text s ≡ Err e) → (text_fault e ≡ E.Memory) ⊎ (link_read s ≡ Err (text_fault e))
unfolding link_read
link_refused e s why = refused e (read_cid_text s) why

pub bytes_refused : (e : DecodeAllocError) (s : List ℕ) → IsDecodeFailure standard_no_pad s e → (decode_fault e ≡ E.Memory) ⊎ (bytes_read s ≡ Err (decode_fault e))
unfolding bytes_read
bytes_refused (D.DecodeError why) s is = inr (ap bytes_or_fault is)
bytes_refused D.OutOfMemory s is = inl refl
