use Rattle.ps_json.proofs.PublishingLemmas.{all_read}
use Rattle.ps_json.proofs.bodies.publishing.messages_in.Goals as goal

pub returns-in-Some : goal.returns-in-Some
returns-in-Some c = all_read c.read_messages.result c.in-Some.items.now _ c.in-Some.ensures c.read_messages.ensures
