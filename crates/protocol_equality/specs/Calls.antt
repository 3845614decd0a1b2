-- Commands that call other invocations. What header equality compares of them, and the test that tells it.
use Rattle.std.specs.Prelude.{ℕ, Bool, true, ◌&&◌, List, Option, nat_eq}
use Rattle.std.proofs.Common.{ap}
use Rattle.std.specs.Cmp.Lexicographic.{pointwise, pointwise_decides}
use Rattle.protocol_equality.specs.EqualityTests.{ToldBy, in_full, deciding, both_tell, parts_tell}
use Rattle.protocol_equality.specs.Laws.{Coarser}
use Rattle.protocol_equality.specs.Parts.{same_text, same_optional_text, numbers_tell, texts_tell, optional_texts_tell}
use Rattle.protocol_equality.specs.Records.{same_header, header_tells}
use Rattle.protocol_equality.specs.Payloads.{same_payload, erased_payload, payload_tells}
use Rattle.protocol_records.specs.declared.header.Header.{Header}
use Rattle.protocol_calls.specs.declared.call_command.CallCommandMessage.{CallCommandMessage}
use Rattle.protocol_calls.specs.declared.one_way_call_command.OneWayCallCommandMessage.{OneWayCallCommandMessage}

-- what calls of both kinds have that is compared
pub record Called : Type 0 where
  pub service_name : List ℕ
  pub handler_name : List ℕ
  pub parameter : List ℕ
  pub headers : List Header
  pub key : List ℕ
  pub idempotency_key : Option (List ℕ)
  pub scope : Option (List ℕ)
  pub limit_key : Option (List ℕ)
  pub invocation_id_notification_idx : ℕ

abbrev pub erased_called : Bool → Called → Called
erased_called ignoring x = record x { parameter = erased_payload ignoring x.parameter }

abbrev pub same_called : Bool → Called → Called → Bool
same_called ignoring x y =
    same_text x.service_name y.service_name
    && same_text x.handler_name y.handler_name
    && same_payload ignoring x.parameter y.parameter
    && pointwise same_header x.headers y.headers
    && same_text x.key y.key
    && same_optional_text x.idempotency_key y.idempotency_key
    && same_optional_text x.scope y.scope
    && same_optional_text x.limit_key y.limit_key
    && nat_eq x.invocation_id_notification_idx y.invocation_id_notification_idx

abbrev called_parts : Called → ((((((((List ℕ) × (List ℕ)) × (List ℕ)) × (List Header)) × (List ℕ)) × (Option (List ℕ))) × (Option (List ℕ))) × (Option (List ℕ))) × ℕ
called_parts x = ((((((((x.service_name, x.handler_name), x.parameter), x.headers), x.key), x.idempotency_key), x.scope), x.limit_key), x.invocation_id_notification_idx)

called_tells : ToldBy same_called erased_called
called_tells ignoring =
    parts_tell called_parts (erased_called ignoring) (λ x y h i. record {
      service_name = (h i).0.0.0.0.0.0.0.0;
      handler_name = (h i).0.0.0.0.0.0.0.1;
      parameter = (h i).0.0.0.0.0.0.1;
      headers = (h i).0.0.0.0.0.1;
      key = (h i).0.0.0.0.1;
      idempotency_key = (h i).0.0.0.1;
      scope = (h i).0.0.1;
      limit_key = (h i).0.1;
      invocation_id_notification_idx = (h i).1;
    }) (λ x y h. ap called_parts h)
    (both_tell (both_tell (both_tell (both_tell (both_tell (both_tell (both_tell (both_tell texts_tell texts_tell) (payload_tells ignoring)) (in_full (pointwise_decides (deciding header_tells)))) texts_tell) optional_texts_tell) optional_texts_tell) optional_texts_tell) numbers_tell)

-- ---- the call

abbrev pub called_by : CallCommandMessage → Called
called_by x = record { service_name = x.service_name; handler_name = x.handler_name; parameter = x.parameter; headers = x.headers; key = x.key; idempotency_key = x.idempotency_key; scope = x.scope; limit_key = x.limit_key; invocation_id_notification_idx = x.invocation_id_notification_idx }

abbrev call_command_of : Called → ℕ → List ℕ → CallCommandMessage
call_command_of c id name = record { service_name = c.service_name; handler_name = c.handler_name; parameter = c.parameter; headers = c.headers; key = c.key; idempotency_key = c.idempotency_key; scope = c.scope; limit_key = c.limit_key; invocation_id_notification_idx = c.invocation_id_notification_idx; result_completion_id = id; name = name }

abbrev pub erased_call_command : Bool → CallCommandMessage → CallCommandMessage
erased_call_command ignoring x = record x { parameter = erased_payload ignoring x.parameter }

abbrev pub same_call_command : Bool → CallCommandMessage → CallCommandMessage → Bool
same_call_command ignoring x y =
    same_called ignoring (called_by x) (called_by y) && nat_eq x.result_completion_id y.result_completion_id && same_text x.name y.name

abbrev call_command_parts : CallCommandMessage → (Called × ℕ) × (List ℕ)
call_command_parts x = ((called_by x, x.result_completion_id), x.name)

pub call_command_tells : ToldBy same_call_command erased_call_command
call_command_tells ignoring =
    parts_tell call_command_parts (erased_call_command ignoring) (λ x y h i. call_command_of (h i).0.0 (h i).0.1 (h i).1) (λ x y h. ap call_command_parts h)
    (both_tell (both_tell (called_tells ignoring) numbers_tell) texts_tell)

pub call_command_coarser : Coarser erased_call_command
call_command_coarser x y h = ap (erased_call_command true) h

-- ---- the call that is not waited for: when it is made is not compared

abbrev pub called_one_way : OneWayCallCommandMessage → Called
called_one_way x = record { service_name = x.service_name; handler_name = x.handler_name; parameter = x.parameter; headers = x.headers; key = x.key; idempotency_key = x.idempotency_key; scope = x.scope; limit_key = x.limit_key; invocation_id_notification_idx = x.invocation_id_notification_idx }

abbrev one_way_call_command_of : Called → List ℕ → OneWayCallCommandMessage
one_way_call_command_of c name = record { service_name = c.service_name; handler_name = c.handler_name; parameter = c.parameter; headers = c.headers; key = c.key; idempotency_key = c.idempotency_key; scope = c.scope; limit_key = c.limit_key; invocation_id_notification_idx = c.invocation_id_notification_idx; invoke_time = 0; name = name }

abbrev pub erased_one_way_call_command : Bool → OneWayCallCommandMessage → OneWayCallCommandMessage
erased_one_way_call_command ignoring x = record x { parameter = erased_payload ignoring x.parameter; invoke_time = 0 }

abbrev pub same_one_way_call_command : Bool → OneWayCallCommandMessage → OneWayCallCommandMessage → Bool
same_one_way_call_command ignoring x y = same_called ignoring (called_one_way x) (called_one_way y) && same_text x.name y.name

abbrev one_way_call_command_parts : OneWayCallCommandMessage → Called × (List ℕ)
one_way_call_command_parts x = (called_one_way x, x.name)

pub one_way_call_command_tells : ToldBy same_one_way_call_command erased_one_way_call_command
one_way_call_command_tells ignoring =
    parts_tell one_way_call_command_parts (erased_one_way_call_command ignoring) (λ x y h i. one_way_call_command_of (h i).0 (h i).1) (λ x y h. ap one_way_call_command_parts h)
    (both_tell (called_tells ignoring) texts_tell)

pub one_way_call_command_coarser : Coarser erased_one_way_call_command
one_way_call_command_coarser x y h = ap (erased_one_way_call_command true) h
