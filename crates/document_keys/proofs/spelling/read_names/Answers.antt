use Rattle.std.proofs.Common.{◌∙◌, refl}
use Rattle.std.specs.Str.Iter.{chars_rest}
use Rattle.std.specs.String.{string_bytes}
use Rattle.document_keys.proofs.Spelled.{closes, entered, pushed, named, stopped, ended, unended}
use Rattle.document_keys.proofs.spelling.read_names.Goals as goal

pub loop-c-preserved-in-Enter : goal.loop-c-preserved-in-Enter
loop-c-preserved-in-Enter c = entered c.args.text.now _ (chars_rest c.loop-c.c-iterator) (chars_rest c.next.new.self) c.loop-c.place (string_bytes c.loop-c.name) c.in-Some.c c.in-Enter.next c.loop-c.invariant c.in-Some.ensures.steps.0 c.in-Enter.ensures

pub loop-c-preserved-in-Push : goal.loop-c-preserved-in-Push
loop-c-preserved-in-Push c = pushed c.args.text.now _ (chars_rest c.loop-c.c-iterator) (chars_rest c.next.new.self) c.loop-c.place (string_bytes c.loop-c.name) (string_bytes c.push.new.self) c.in-Some.c c.in-Push.next c.loop-c.invariant c.in-Some.ensures.steps.0 c.in-Push.ensures c.in_ok-push-in-Push.ensures.bytes

pub loop-c-preserved : goal.loop-c-preserved
loop-c-preserved c = named c.args.text.now c.loop-c.names.items c.push-in-Finish.new.self.items (chars_rest c.loop-c.c-iterator) (chars_rest c.next.new.self) c.loop-c.place (string_bytes c.loop-c.name) c.in_ok-whole-in-Finish.whole (string_bytes c.clear.new.self) c.in-Some.c c.loop-c.invariant c.in-Some.ensures.steps.0 c.in-Finish.ensures (c.in_ok-whole-in-Finish.ensures ∙ c.as_str.ensures.value) c.in_ok-push-in-Finish.ensures.items c.clear.ensures.bytes

pub returns-in-Stop-clause-fault : goal.returns-in-Stop-clause-fault
returns-in-Stop-clause-fault c = λ other. (refl, stopped c.args.text.now c.loop-c.names.items (chars_rest c.loop-c.c-iterator) (chars_rest c.next.new.self) c.loop-c.place (string_bytes c.loop-c.name) c.in-Some.c c.loop-c.invariant c.in-Some.ensures.steps.0 c.in-Stop.ensures)

pub returns-in_ok-push-in-Plain-clause-names : goal.returns-in_ok-push-in-Plain-clause-names
returns-in_ok-push-in-Plain-clause-names c = ended c.args.text.now c.loop-c.names.items c.push-in-Plain.new.self.items (chars_rest c.loop-c.c-iterator) c.loop-c.place (string_bytes c.loop-c.name) c.in_ok-last-in-Plain.last c.loop-c.invariant c.in-None.ensures.steps.0.0 (closes c.loop-c.place (string_bytes c.loop-c.name) c.in-Plain.is) (c.in_ok-last-in-Plain.ensures ∙ c.as_str-in-Plain.ensures.value) c.in_ok-push-in-Plain.ensures.items

pub returns-in_default : goal.returns-in_default
returns-in_default c = record {
  names = tt;
  fault = λ other. (refl, unended c.args.text.now c.loop-c.names.items (chars_rest c.loop-c.c-iterator) c.loop-c.place (string_bytes c.loop-c.name) c.loop-c.invariant c.in-None.ensures.steps.0.0 c.in_default.not-Plain c.in_default.not-Closed);
}
