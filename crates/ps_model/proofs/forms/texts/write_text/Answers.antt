use Rattle.ps_model.proofs.FormSteps.{text-fits}
use Rattle.ps_model.proofs.forms.texts.write_text.Goals as goal

pub returns-clause-fits : goal.returns-clause-fits
returns-clause-fits c = text-fits c.args.text.now c.as_bytes.result.now c.write_bytes.result c.as_bytes.ensures.value c.as_bytes.ensures.utf8 c.write_bytes.ensures.fits
