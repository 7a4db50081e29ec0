-- Each reason's number and response code, and how a code is written.
use Rattle.std.specs.Prelude.{List, ℕ, codes}
use Rattle.reason.specs.declared.Reason.{Reason}
use Rattle.reason.specs.declared.Reason.TheVariants.{NotWellFormed, DoesNotFit, NoRoom}
use Rattle.reason.specs.declared.Code.{Code}
use Rattle.reason.specs.declared.Code.TheVariants.{BadRequest, InternalServerError}

abbrev pub number_of : Reason → ℕ
number_of NotWellFormed = 10
number_of DoesNotFit = 13
number_of NoRoom = 17

abbrev pub code_of : Reason → Code
code_of NotWellFormed = BadRequest
code_of DoesNotFit = BadRequest
code_of NoRoom = InternalServerError

abbrev pub code_text : Code → List ℕ
code_text BadRequest = codes "4.00"
code_text InternalServerError = codes "5.00"
