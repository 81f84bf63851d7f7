-- Questions by which a host asks only who a device is, and which coins it knows.
use Rattle.std.specs.Prelude.{Bool, true, false, Option, Some, None}
use Rattle.cct_model.specs.terms.request.Request.{Request}
use Rattle.cct_model.specs.terms.request.Request.TheVariants as request

-- What bytes ask is such a question, or nothing.
abbrev pub is_question : Option Request → Bool
is_question None = true
is_question (Some request.SimplePoll) = true
is_question (Some request.AddressPoll) = true
is_question (Some request.Category) = true
is_question (Some request.ProductCode) = true
is_question (Some request.SerialNumber) = true
is_question (Some (request.CoinId place)) = true
is_question asked = false
