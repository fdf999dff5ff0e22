-- The certificate is document 01's condition (Exact), what a call's number says of it (Judging), the definitions computed (Cases), and what the
-- proofs of single functions go by.
pub mod Exact
pub mod Judging
pub mod Cases
pub mod CertificateFacts
pub mod JudgeFacts
pub mod CallFacts
