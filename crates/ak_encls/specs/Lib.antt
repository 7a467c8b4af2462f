pub mod Enclave
pub mod Sound
pub mod Paging
pub mod Answering
pub mod Building
pub mod Lending
