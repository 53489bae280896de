use Rattle.text_document_laws.proofs.Cones.{cones_read, cone_documents_read}
use Rattle.text_document_laws.proofs.LeavingCones.{cone_faults_leave}
use Rattle.text_document_laws.proofs.cones_are_read.Goals as goal

pub returns-clause-lines : goal.returns-clause-lines
returns-clause-lines c = cones_read

pub returns-clause-documents : goal.returns-clause-documents
returns-clause-documents c = cone_documents_read

pub returns-clause-faults : goal.returns-clause-faults
returns-clause-faults c = cone_faults_leave
