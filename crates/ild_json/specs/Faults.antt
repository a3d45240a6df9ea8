-- What a reader of CIDs or of base64 refuses, as a fault of the walk.
use Rattle.base64.specs.declared.decode.DecodeAllocError.{DecodeAllocError}
use Rattle.base64.specs.declared.decode.DecodeAllocError.TheVariants as D
use Rattle.ild_data.specs.declared.fault.TextErr.{TextErr}
use Rattle.ild_data.specs.declared.fault.TextErr.TheVariants as T
use Rattle.ild_json.specs.declared.error.JsonErr.{JsonErr}
use Rattle.ild_json.specs.declared.error.JsonErr.TheVariants as E

abbrev pub text_fault : TextErr → JsonErr
text_fault T.Prefix = E.Cid
text_fault T.Digit = E.Cid
text_fault T.Bits = E.Cid
text_fault (T.Cid why) = E.Cid
text_fault T.Memory = E.Memory

abbrev pub decode_fault : DecodeAllocError → JsonErr
decode_fault (D.DecodeError why) = E.Bytes
decode_fault D.OutOfMemory = E.Memory
